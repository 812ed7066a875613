-- Laws of `sum n f`.
use mathlib.Core.Path.{◌≡◌, refl, sym, ap, ap₂, ◌∙◌}
use mathlib.Core.Logic.{◌≢◌, ◌⊎◌, inl, inr}
use Prim.Native.Nat.{ℕ, zero, suc, ◌+◌, ◌%◌, ◌≤◌, ◌<◌}
use native.Mathlib.Nat.{eq-or-lt_of_le, le_of_suc-le-suc, not-suc-le-zero, le_step, lt-suc_self, ne_of_lt}
use native.Mathlib.Decide.{ℕ_discrete, le_ind}
use native.Mathlib.Omega.{arith}
use Rattle.parity.specs.Xor.{◌⊕◌}
use Rattle.parity.specs.Sum.{sum}
use Rattle.parity.proofs.Xor.{⊕_assoc, ⊕_comm, ⊕_self, ⊕_zero, zero_⊕, ⊕_lt, xor}

pub sum_cong : (n : ℕ) {f g : ℕ → ℕ} → ((i : ℕ) → i < n → f i ≡ g i) → sum n f ≡ sum n g
unfolding sum
sum_cong zero h = refl
sum_cong (suc n) h = ap₂ ◌⊕◌ (sum_cong n (λ i l. h i (le_step l))) (h n (lt-suc_self n))

pub sum_none : (n : ℕ) {f : ℕ → ℕ} → ((i : ℕ) → i < n → f i ≡ 0) → sum n f ≡ 0
unfolding sum
sum_none zero h = refl
sum_none (suc n) h = rw (sum_none n (λ i l. h i (le_step l)), h n (lt-suc_self n)) (⊕_self 0)

pub sum_add : (n : ℕ) (f g : ℕ → ℕ) → sum n (λ i. f i ⊕ g i) ≡ sum n f ⊕ sum n g
unfolding sum
sum_add zero f g = sym (⊕_self 0)
sum_add (suc n) f g = rw (sum_add n f g) (simp xor)

pub sum_swap : (n m : ℕ) (f : ℕ → ℕ → ℕ) → sum n (λ i. sum m (λ j. f i j)) ≡ sum m (λ j. sum n (λ i. f i j))
unfolding sum
sum_swap zero m f = sym (sum_none m (λ j l. refl))
sum_swap (suc n) m f = rw (sum_swap n m f) (sym (sum_add m (λ j. sum n (λ i. f i j)) (f n)))

-- all but one are zero
pub sum_one : (n c : ℕ) {f : ℕ → ℕ} → c < n → ((i : ℕ) → i < n → i ≢ c → f i ≡ 0) → sum n f ≡ f c
unfolding sum
sum_one zero c l h = absurd (not-suc-le-zero l)
sum_one (suc n) c {f} l h = pick (eq-or-lt_of_le (le_of_suc-le-suc l)) (λ k. sum_one n c k (λ i l. h i (le_step l)))
  where
    pick : (c ≡ n) ⊎ (c < n) → (c < n → sum n f ≡ f c) → sum n f ⊕ f n ≡ f c
    pick (inl e) ih = rw (e, sum_none n (λ i l. h i (le_step l) (rw e (ne_of_lt l)))) (zero_⊕ (f n))
    pick (inr k) ih = rw (ih k, h n (lt-suc_self n) (λ e. ne_of_lt k (sym e))) (⊕_zero (f c))

pub sum_lt : (n : ℕ) (f : ℕ → ℕ) → ((i : ℕ) → i < n → f i < 256) → sum n f < 256
unfolding sum
sum_lt zero f h = omega arith
sum_lt (suc n) f h = ⊕_lt (sum n f) (f n) (sum_lt n f (λ i l. h i (le_step l))) (h n (lt-suc_self n))

pub sum_odd : (n x : ℕ) → n % 2 ≡ 1 → sum n (λ i. x) ≡ x
unfolding sum
sum_odd zero x h = absurd (omega arith)
sum_odd (suc zero) x h = zero_⊕ x
sum_odd (suc (suc n)) x h = rw (sum_odd n x (omega arith)) (simp xor)

-- x where i is j, and zero elsewhere
only : (i j : ℕ) → Dec (i ≡ j) → ℕ → ℕ
only i j (yes e) x = x
only i j (no f) x = 0

only_yes : (i j x : ℕ) (d : Dec (i ≡ j)) → i ≡ j → only i j d x ≡ x
unfolding only
only_yes i j x (yes e) h = refl
only_yes i j x (no f) h = absurd (f h)

only_no : (i j x : ℕ) (d : Dec (i ≡ j)) → i ≢ j → only i j d x ≡ 0
unfolding only
only_no i j x (yes e) h = absurd (h e)
only_no i j x (no f) h = refl

-- in another order: p and q are inverse to one another below m
pub record Order (m : ℕ) (p q : ℕ → ℕ) : Type 0 where
  pub there : (i : ℕ) → i < m → p i < m
  pub back : (i : ℕ) → i < m → q i < m
  pub pq : (i : ℕ) → i < m → p (q i) ≡ i
  pub qp : (i : ℕ) → i < m → q (p i) ≡ i

pub sum_order : (m : ℕ) (p q f : ℕ → ℕ) → Order m p q → sum m (λ j. f (p j)) ≡ sum m f
sum_order m p q f o =
    sum_cong m (λ j l. sym (sum_one m (p j) (o.there j l) (λ i k ne. only_no i (p j) (f i) (ℕ_discrete i (p j)) ne)
    ∙ ap (λ x. x) (only_yes (p j) (p j) (f (p j)) (ℕ_discrete (p j) (p j)) refl)))
    ∙ sum_swap m m (λ j i. only i (p j) (ℕ_discrete i (p j)) (f i))
    ∙ sum_cong m (λ i l. sum_one m (q i) (o.back i l)
    (λ j k ne. only_no i (p j) (f i) (ℕ_discrete i (p j)) (λ e. ne (sym (ap q e ∙ o.qp j k))))
    ∙ only_yes i (p (q i)) (f i) (ℕ_discrete i (p (q i))) (sym (o.pq i l)))

pub sum_head : (n : ℕ) (f : ℕ → ℕ) → sum (suc n) f ≡ f 0 ⊕ sum n (λ j. f (suc j))
unfolding sum
sum_head zero f = ⊕_comm 0 (f 0)
sum_head (suc n) f = rw (sum_head n f) (⊕_assoc (f 0) (sum n (λ j. f (suc j))) (f (suc n)))

pub sum_pairs : (n : ℕ) (f : ℕ → ℕ) → sum (n + n) f ≡ sum n (λ j. f (j + j) ⊕ f (suc (j + j)))
unfolding sum
sum_pairs zero f = refl
sum_pairs (suc n) f = rw (twice n, sum_pairs n f) (⊕_assoc (sum n (λ j. f (j + j) ⊕ f (suc (j + j)))) (f (n + n)) (f (suc (n + n))))
  where
    twice : (n : ℕ) → suc n + suc n ≡ suc (suc (n + n))
    twice n = omega arith

-- some, and then others
pub sum_join : (n m : ℕ) (f : ℕ → ℕ) → sum (n + m) f ≡ sum n f ⊕ sum m (λ j. f (n + j))
unfolding sum
sum_join n zero f = ap (λ (x : ℕ). sum x f) (let e : n + 0 ≡ n = omega arith in e) ∙ sym (⊕_zero (sum n f))
sum_join n (suc m) f =
    ap (λ (x : ℕ). sum x f) (let e : n + suc m ≡ suc (n + m) = omega arith in e)
    ∙ ap (λ (x : ℕ). x ⊕ f (n + m)) (sum_join n m f)
    ∙ ⊕_assoc (sum n f) (sum m (λ j. f (n + j))) (f (n + m))

-- what lies past k is zero
pub sum_cut : (k m : ℕ) {f : ℕ → ℕ} → k ≤ m → ((i : ℕ) → k ≤ i → i < m → f i ≡ 0) → sum m f ≡ sum k f
unfolding sum
sum_cut k m {f} l h = le_ind (λ n. ((i : ℕ) → k ≤ i → i < n → f i ≡ 0) → sum n f ≡ sum k f) (λ h. refl) step m l h
  where
    step : (n : ℕ) → k ≤ n → (((i : ℕ) → k ≤ i → i < n → f i ≡ 0) → sum n f ≡ sum k f) → ((i : ℕ) → k ≤ i → i < suc n → f i ≡ 0) → sum (suc n) f ≡ sum k f
    step n l ih h = rw (ih (λ i a b. h i a (le_step b)), h n l (lt-suc_self n)) (⊕_zero (sum k f))

-- all but two are zero
pub sum_two_lem : (n u v : ℕ) {f : ℕ → ℕ} → u < n → v < n → u ≢ v → ((i : ℕ) → i < n → i ≢ u → i ≢ v → f i ≡ 0) → sum n f ≡ f u ⊕ f v
sum_two_lem n u v {f} lu lv ne h =
    sum_cong n (λ i l. split i l (ℕ_discrete i u) (ℕ_discrete i v))
    ∙ sum_add n (λ i. only i u (ℕ_discrete i u) (f i)) (λ i. only i v (ℕ_discrete i v) (f i))
    ∙ ap₂ ◌⊕◌ (single u lu) (single v lv)
  where
    single : (c : ℕ) → c < n → sum n (λ i. only i c (ℕ_discrete i c) (f i)) ≡ f c
    single c l = sum_one n c l (λ i k ne. only_no i c (f i) (ℕ_discrete i c) ne) ∙ only_yes c c (f c) (ℕ_discrete c c) refl

    split : (i : ℕ) → i < n → (p : Dec (i ≡ u)) (q : Dec (i ≡ v)) → f i ≡ only i u p (f i) ⊕ only i v q (f i)
    split i l (yes a) q = sym (ap₂ ◌⊕◌ (only_yes i u (f i) (yes a) a) (only_no i v (f i) q (λ b. ne (sym a ∙ b))) ∙ ⊕_zero (f i))
    split i l (no a) (yes b) = sym (ap₂ ◌⊕◌ (only_no i u (f i) (no a) a) (only_yes i v (f i) (yes b) b) ∙ zero_⊕ (f i))
    split i l (no a) (no b) = h i l a b ∙ sym (ap₂ ◌⊕◌ (only_no i u (f i) (no a) a) (only_no i v (f i) (no b) b) ∙ ⊕_self 0)
