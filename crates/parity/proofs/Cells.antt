-- Laws of a(i,t), and of the diagonals that it is summed along.
--   when_true, when_false   which way a test goes
--   cell_real               a real cell is the lane's byte
--   cell_imaginary          imaginary columns are zero
--   cell_below              row m - 1 and what is below it are zero
--   diagonal m k a i        the sum of a(i - t mod m, t) over t from 0 to m - 1, so that D is S plus it
--   S_diagonal              S is diagonal m - 1
--   cell_same, H_same, D_same   H and D look at a stripe's own rows and data columns alone
--   holds_same              the equations look at a stripe's own rows and columns alone
use mathlib.Core.Path.{◌≡◌, refl, sym, ap, ap₂, ◌∙◌}
use mathlib.Core.Bool.{Bool, true, false, cond, not}
use Prim.Native.Nat.{ℕ, suc, ◌+◌, ◌-◌, ◌≤◌, ◌<◌}
use native.Mathlib.Nat.{mod-eq_of_lt, add-mod_right, le_refl, sub-zero}
use native.Mathlib.Omega.{arith}
use lib.Dec.{T, ltb, lt→ltb, ltb→lt}
use lib.Arith.{le→nltb}
use Rattle.parity.specs.Xor.{◌⊕◌}
use Rattle.parity.specs.Sum.{sum}
use Rattle.parity.specs.Equations.{Lane, cell, back, H, S, D, Holds}
use Rattle.parity.proofs.Xor.{zero_⊕}
use Rattle.parity.proofs.Sum.{sum_cong, sum_head}

pub when_true : {A : Type 0} (b : Bool) (x y : A) → T b → cond b x y ≡ x
when_true true x y t = refl
when_true false x y t = absurd t

pub when_false : {A : Type 0} (b : Bool) (x y : A) → T (not b) → cond b x y ≡ y
when_false true x y t = absurd t
when_false false x y t = refl

unfoldable pub diagonal : ℕ → ℕ → Lane → ℕ → ℕ
diagonal m k a i = sum m (λ t. cell m k a (back m i t) t)

module _ (m k : ℕ) (a : Lane) where
  pub cell_real : (i t : ℕ) → i < m - 1 → t < k → cell m k a i t ≡ a i t
  unfolding cell
  cell_real i t h l = when_true (ltb i (m - 1)) (cond (ltb t k) (a i t) 0) 0 (lt→ltb i (m - 1) h) ∙ when_true (ltb t k) (a i t) 0 (lt→ltb t k l)

  pub cell_imaginary : (i t : ℕ) → k ≤ t → cell m k a i t ≡ 0
  unfolding cell
  cell_imaginary i t l = ap (λ x. cond (ltb i (m - 1)) x 0) (when_false (ltb t k) (a i t) 0 (le→nltb t k l)) ∙ zeros (ltb i (m - 1))
    where
      zeros : (b : Bool) → cond {A = ℕ} b 0 0 ≡ 0
      zeros true = refl
      zeros false = refl

  pub cell_below : (i t : ℕ) → m - 1 ≤ i → cell m k a i t ≡ 0
  unfolding cell
  cell_below i t l = when_false (ltb i (m - 1)) (cond (ltb t k) (a i t) 0) 0 (le→nltb i (m - 1) l)

  pub S_diagonal : 1 < m → S m k a ≡ diagonal m k a (m - 1)
  unfolding S diagonal back
  S_diagonal big =
      sym (ap (λ n. sum n (λ t. cell m k a (back m (m - 1) t) t)) (sym whole)
      ∙ sum_head (m - 1) (λ t. cell m k a (back m (m - 1) t) t)
      ∙ ap₂ ◌⊕◌ (cell_below (back m (m - 1) 0) 0 first) (sum_cong (m - 1) (λ t l. ap (λ x. cell m k a x (suc t)) (next t l)))
      ∙ zero_⊕ (sum (m - 1) (λ t. cell m k a (m - 1 - suc t) (suc t))))
    where
      whole : suc (m - 1) ≡ m
      whole = omega arith

      first : m - 1 ≤ back m (m - 1) 0
      first = rw (sub-zero m, add-mod_right (m - 1) m, mod-eq_of_lt {n = m - 1} {m = m} (omega arith)) (le_refl (m - 1))

      next : (t : ℕ) → t < m - 1 → back m (m - 1) (suc t) ≡ m - 1 - suc t
      next t l =
          let around : m - 1 + (m - suc t) ≡ m - 1 - suc t + m = omega arith in
          rw (around, add-mod_right (m - 1 - suc t) m) (mod-eq_of_lt (omega arith))

-- a test's two ways
pub when_same : (c : Bool) (x y : ℕ) → (T c → x ≡ y) → cond c x 0 ≡ cond c y 0
when_same true x y h = h tt
when_same false x y h = refl

pub cell_same : (m k : ℕ) (a b : Lane) (i t : ℕ) → (i < m - 1 → t < k → a i t ≡ b i t) → cell m k a i t ≡ cell m k b i t
unfolding cell
cell_same m k a b i t same =
    when_same (ltb i (m - 1)) (cond (ltb t k) (a i t) 0) (cond (ltb t k) (b i t) 0) (λ p.
    when_same (ltb t k) (a i t) (b i t) (λ q. same (ltb→lt i (m - 1) p) (ltb→lt t k q)))

module _ (m k : ℕ) (a b : Lane) (same : (i t : ℕ) → i < m - 1 → t < k → a i t ≡ b i t) where
  pub H_same : (i : ℕ) → H m k a i ≡ H m k b i
  unfolding H
  H_same i = sum_cong m (λ t c. cell_same m k a b i t (same i t))

  pub D_same : (i : ℕ) → D m k a i ≡ D m k b i
  unfolding D S
  D_same i = ap₂ ◌⊕◌ (sum_cong (m - 1) (λ j c. at (m - 1 - suc j) (suc j))) (sum_cong m (λ t c. at (back m i t) t))
    where
      at : (i t : ℕ) → cell m k a i t ≡ cell m k b i t
      at i t = cell_same m k a b i t (same i t)

pub holds_same : (m k : ℕ) (a b : Lane) → ((i t : ℕ) → i < m - 1 → t < k + 2 → a i t ≡ b i t) → Holds m k a → Holds m k b
holds_same m k a b same v = record {
  h = λ i l. sym (same i k l (omega arith)) ∙ v.h i l ∙ H_same m k a b real i;
  d = λ i l. sym (same i (k + 1) l (omega arith)) ∙ v.d i l ∙ D_same m k a b real i;
}
  where
    real : (i t : ℕ) → i < m - 1 → t < k → a i t ≡ b i t
    real i t l c = same i t l (omega arith)
