-- Numbers at the places of a type X, added place by place: they are a group as the numbers are. Assumes nothing.
use mathlib.Core.Path.{◌≡◌, ap, fun_ext}
use mathlib.Core.Logic.{◌≢◌}
use Prim.Native.Nat.{ℕ, suc, ◌+◌, ◌<◌}
use Rattle.parity.specs.Xor.{◌⊕◌}
use Rattle.parity.proofs.Xor.{⊕_assoc, ⊕_comm, ⊕_self, ⊕_zero, zero_⊕, ⊕_left_comm, ⊕_cancel, ⊕_eq, by_sum}
use Rattle.parity.specs.Sum.{sum}
use Rattle.parity.proofs.Sum.{sum_cong, sum_none, sum_add, sum_head, sum_pairs, sum_two_lem}

infixl 70 ◌⊞◌
unfoldable pub ◌⊞◌ : {X : Type 0} → (X → ℕ) → (X → ℕ) → X → ℕ
◌⊞◌ f g x = f x ⊕ g x

unfoldable pub O : {X : Type 0} → X → ℕ
O x = 0

unfoldable pub total : {X : Type 0} → ℕ → (ℕ → X → ℕ) → X → ℕ
total n f x = sum n (λ t. f t x)

module _ {X : Type 0} where
  pub ⊞_assoc : (f g h : X → ℕ) → f ⊞ g ⊞ h ≡ f ⊞ (g ⊞ h)
  unfolding ◌⊞◌
  ⊞_assoc f g h = fun_ext (λ x. ⊕_assoc (f x) (g x) (h x))

  pub ⊞_comm : (f g : X → ℕ) → f ⊞ g ≡ g ⊞ f
  unfolding ◌⊞◌
  ⊞_comm f g = fun_ext (λ x. ⊕_comm (f x) (g x))

  pub ⊞_left_comm : (f g h : X → ℕ) → f ⊞ (g ⊞ h) ≡ g ⊞ (f ⊞ h)
  unfolding ◌⊞◌
  ⊞_left_comm f g h = fun_ext (λ x. ⊕_left_comm (f x) (g x) (h x))

  pub ⊞_self : (f : X → ℕ) → f ⊞ f ≡ O
  unfolding ◌⊞◌ O
  ⊞_self f = fun_ext (λ x. ⊕_self (f x))

  pub ⊞_cancel : (f g : X → ℕ) → f ⊞ (f ⊞ g) ≡ g
  unfolding ◌⊞◌
  ⊞_cancel f g = fun_ext (λ x. ⊕_cancel (f x) (g x))

  pub ⊞_zero : (f : X → ℕ) → f ⊞ O ≡ f
  unfolding ◌⊞◌ O
  ⊞_zero f = fun_ext (λ x. ⊕_zero (f x))

  pub zero_⊞ : (f : X → ℕ) → O ⊞ f ≡ f
  unfolding ◌⊞◌ O
  zero_⊞ f = fun_ext (λ x. zero_⊕ (f x))

  pub ⊞_eq : (f g : X → ℕ) → f ⊞ g ≡ O → f ≡ g
  unfolding ◌⊞◌ O
  ⊞_eq f g e = fun_ext (λ x. ⊕_eq (f x) (g x) (ap (λ h. h x) e))

pub ruleset xors = (⊞_assoc, ⊞_comm, ⊞_left_comm, ⊞_self, ⊞_cancel, ⊞_zero, zero_⊞)

module _ {X : Type 0} where
  pub by_sums : {f g l r : X → ℕ} → l ≡ r → f ⊞ l ≡ g ⊞ r → f ≡ g
  unfolding ◌⊞◌
  by_sums {f} {g} {l} {r} e p = fun_ext (λ x. by_sum {a = f x} {b = g x} {l = l x} {r = r x} (ap (λ h. h x) e) (ap (λ h. h x) p))

  pub total_cong : (n : ℕ) {f g : ℕ → X → ℕ} → ((t : ℕ) → t < n → f t ≡ g t) → total n f ≡ total n g
  unfolding total
  total_cong n h = fun_ext (λ x. sum_cong n (λ t l. ap (λ c. c x) (h t l)))

  pub total_none : (n : ℕ) {f : ℕ → X → ℕ} → ((t : ℕ) → t < n → f t ≡ O) → total n f ≡ O
  unfolding total O
  total_none n h = fun_ext (λ x. sum_none n (λ t l. ap (λ c. c x) (h t l)))

  pub total_add : (n : ℕ) (f g : ℕ → X → ℕ) → total n (λ t. f t ⊞ g t) ≡ total n f ⊞ total n g
  unfolding total ◌⊞◌
  total_add n f g = fun_ext (λ x. sum_add n (λ t. f t x) (λ t. g t x))

  pub total_head : (n : ℕ) (f : ℕ → X → ℕ) → total (suc n) f ≡ f 0 ⊞ total n (λ j. f (suc j))
  unfolding total ◌⊞◌
  total_head n f = fun_ext (λ x. sum_head n (λ t. f t x))

  pub total_pairs : (n : ℕ) (f : ℕ → X → ℕ) → total (n + n) f ≡ total n (λ j. f (j + j) ⊞ f (suc (j + j)))
  unfolding total ◌⊞◌
  total_pairs n f = fun_ext (λ x. sum_pairs n (λ t. f t x))

  pub total_two : (n u v : ℕ) {f : ℕ → X → ℕ} → u < n → v < n → u ≢ v → ((t : ℕ) → t < n → t ≢ u → t ≢ v → f t ≡ O) → total n f ≡ f u ⊞ f v
  unfolding total ◌⊞◌ O
  total_two n u v lu lv ne h = fun_ext (λ x. sum_two_lem n u v lu lv ne (λ t l nu nv. ap (λ c. c x) (h t l nu nv)))
