-- Laws of `count` and `some`.
--   count_cong, some_cong   equal tests, equal answers
--   count_most       at most n numbers below n pass
--   count_under      a number that passes is counted with those below it
--   none_pass        a count of zero: every number below n fails
--   all_fail         and the other way round
--   last_pass        the highest number below n that passes, and the count of those below it
--   one_pass         a count of at most one: every number below n but one fails
--   listed_pass      all fail but those of a list: at most as many pass as are listed
--   few_pass         all but one fail: at most one passes
--   some_false, false_some   none passes, said number by number
--   some_true        a number that passes
use mathlib.Core.Path.{◌≡◌, refl, sym, ap, ap₂, ◌∙◌}
use mathlib.Core.Logic.{◌≢◌, ◌⊎◌, inl, inr, by_cases}
use mathlib.Core.Bool.{Bool, true, false, not, cond, ◌||◌, ◌&&◌, true≢false, false≢true}
use mathlib.Core.List.{List, [], ◌∷◌}
use Prim.Native.Nat.{ℕ, zero, suc, ◌≤◌, ◌<◌}
use native.Mathlib.Nat.{le_step, lt-suc_self, eq-or-lt_of_le, le_of_suc-le-suc, not-suc-le-zero}
use native.Mathlib.Decide.{dec_lt, ℕ_discrete}
use native.Mathlib.Omega.{arith}
use lib.Dec.{eqb}
use lib.ListN.{length}
use borrow.Author.Tests.{eq-eqb, ne_eqb}
use Rattle.parity.specs.Sum.{count, some}
use Rattle.parity.specs.Shape.{member}

pub count_cong : (n : ℕ) {f g : ℕ → Bool} → ((t : ℕ) → t < n → f t ≡ g t) → count n f ≡ count n g
unfolding count
count_cong zero h = refl
count_cong (suc n) h = ap₂ (λ b c. cond b (suc c) c) (h n (lt-suc_self n)) (count_cong n (λ t l. h t (le_step l)))

pub count_most : (n : ℕ) (f : ℕ → Bool) → count n f ≤ n
unfolding count
count_most zero f = omega arith
count_most (suc n) f = go (f n) (count_most n f)
  where
    go : (b : Bool) → count n f ≤ n → cond b (suc (count n f)) (count n f) ≤ suc n
    go true h = omega arith
    go false h = omega arith

pub count_under : (n : ℕ) (f : ℕ → Bool) (t : ℕ) → f t ≡ true → t < n → count t f < count n f
unfolding count
count_under zero f t e l = absurd (not-suc-le-zero l)
count_under (suc n) f t e l = go (f n) refl (count_under n f t e) (eq-or-lt_of_le (le_of_suc-le-suc l))
  where
    go : (b : Bool) → f n ≡ b → (t < n → count t f < count n f) → (t ≡ n) ⊎ (t < n) → count t f < cond b (suc (count n f)) (count n f)
    go true p ih (inl q) = let x : count t f ≡ count n f = ap (λ i. count i f) q in omega arith
    go true p ih (inr h) = let x = ih h in omega arith
    go false p ih (inl q) = absurd (false≢true (sym p ∙ ap f (sym q) ∙ e))
    go false p ih (inr h) = ih h

pub none_pass : (n : ℕ) (f : ℕ → Bool) → count n f ≡ 0 → (t : ℕ) → t < n → f t ≡ false
unfolding count
none_pass zero f e t l = absurd (not-suc-le-zero l)
none_pass (suc n) f e t l = go (f n) refl (none_pass n f) (eq-or-lt_of_le (le_of_suc-le-suc l))
  where
    go : (b : Bool) → f n ≡ b → (count n f ≡ 0 → (t : ℕ) → t < n → f t ≡ false) → (t ≡ n) ⊎ (t < n) → f t ≡ false
    go true p ih d = absurd (let z : suc (count n f) ≡ 0 = rw p at e in omega arith)
    go false p ih (inl q) = ap f q ∙ p
    go false p ih (inr h) = ih (rw p at e) t h

pub all_fail : (n : ℕ) (f : ℕ → Bool) → ((t : ℕ) → t < n → f t ≡ false) → count n f ≡ 0
unfolding count
all_fail zero f h = refl
all_fail (suc n) f h = rw (h n (lt-suc_self n)) (all_fail n f (λ t l. h t (le_step l)))

pub record Last (n : ℕ) (f : ℕ → Bool) : Type 0 where
  pub at : ℕ
  pub below : at < n
  pub passes : f at ≡ true
  pub above : (t : ℕ) → at < t → t < n → f t ≡ false
  pub left : count n f ≡ suc (count at f)

pub last_pass : (n : ℕ) (f : ℕ → Bool) → 0 < count n f → Last n f
unfolding count
last_pass zero f h = absurd (omega arith)
last_pass (suc n) f h = go (f n) refl (last_pass n f)
  where
    go : (b : Bool) → f n ≡ b → (0 < count n f → Last n f) → Last (suc n) f
    go true e ih = record { at = n; below = lt-suc_self n; passes = e; above = λ t a l. absurd (omega arith); left = rw e }
    go false e ih =
        let r = ih (rw e at h) in
        record {
          at = r.at;
          below = le_step r.below;
          passes = r.passes;
          above = λ t a l. elim (eq-or-lt_of_le (le_of_suc-le-suc l)) [ inl q ↦ ap f q ∙ e | inr q ↦ r.above t a q ];
          left = rw e r.left;
        }

pub one_pass : (n : ℕ) (f : ℕ → Bool) → 0 < n → count n f ≤ 1 → (u : ℕ) × (u < n) × ((t : ℕ) → t < n → t ≢ u → f t ≡ false)
one_pass n f pos few = elim (dec_lt 0 (count n f)) [
  | no z ↦ (0, pos, λ t l ne. none_pass n f (omega arith) t l)
  | yes p ↦ let r = last_pass n f p in (
    r.at,
    r.below,
    λ t l ne. elim (dec_lt t r.at) [ yes c ↦ none_pass r.at f (let x = r.left in omega arith) t c | no c ↦ r.above t (omega arith) l ],
  )
]

-- all but one of those that pass
but_one : (n u : ℕ) (f : ℕ → Bool) → count n f ≤ suc (count n (λ t. not (eqb u t) && f t))
unfolding count
but_one zero u f = omega arith
but_one (suc n) u f = by_cases (ℕ_discrete u n)
    (λ e. rw (eq-eqb u n e, count_cong n {f = f} {g = λ t. not (eqb u t) && f t} (λ t l. rw (ne_eqb u t (λ q. omega arith)))) (most (f n)))
    (λ ne. rw (ne_eqb u n ne) (step (f n) (but_one n u f)))
  where
    most : (b : Bool) {c : ℕ} → cond b (suc c) c ≤ suc c
    most true = omega arith
    most false = omega arith

    step : (b : Bool) {c d : ℕ} → c ≤ suc d → cond b (suc c) c ≤ suc (cond b (suc d) d)
    step true h = omega arith
    step false h = h

-- all fail but those of a list: at most as many pass as are listed
pub listed_pass : (n : ℕ) (xs : List ℕ) (f : ℕ → Bool) → ((t : ℕ) → t < n → member t xs ≡ false → f t ≡ false) → count n f ≤ length xs
listed_pass n [] f h = omega (arith, all_fail n f (λ t l. h t l refl))
listed_pass n (x ∷ xs) f h =
    let rest = listed_pass n xs (λ t. not (eqb x t) && f t) (λ t l other. go (eqb x t) t refl l other) in
    omega (arith, but_one n x f, rest)
  where
    go : (c : Bool) (t : ℕ) → eqb x t ≡ c → t < n → member t xs ≡ false → (not c && f t) ≡ false
    go true t e l other = refl
    go false t e l other = h t l (rw (e, other) refl)

-- all but one fail: at most one passes
pub few_pass : (n u : ℕ) (f : ℕ → Bool) → ((t : ℕ) → t < n → t ≢ u → f t ≡ false) → count n f ≤ 1
few_pass n u f h = listed_pass n (u ∷ []) f (λ t l other. h t l (λ e. true≢false (rw (eq-eqb u t (sym e)) at other)))

pub some_cong : (n : ℕ) {f g : ℕ → Bool} → ((t : ℕ) → t < n → f t ≡ g t) → some n f ≡ some n g
unfolding some
some_cong zero h = refl
some_cong (suc n) h = ap₂ ◌||◌ (h n (lt-suc_self n)) (some_cong n (λ t l. h t (le_step l)))

pub some_false : (n : ℕ) (p : ℕ → Bool) → some n p ≡ false → (i : ℕ) → i < n → p i ≡ false
unfolding some
some_false zero p e i l = absurd (not-suc-le-zero l)
some_false (suc n) p e i l = go (p n) refl (some_false n p) (eq-or-lt_of_le (le_of_suc-le-suc l))
  where
    go : (b : Bool) → p n ≡ b → (some n p ≡ false → (i : ℕ) → i < n → p i ≡ false) → (i ≡ n) ⊎ (i < n) → p i ≡ false
    go true q ih d = absurd (let z : true ≡ false = rw q at e in let y : ◌≡◌ {A = ℕ} 0 1 = cc in omega arith)
    go false q ih (inl d) = ap p d ∙ q
    go false q ih (inr d) = ih (rw q at e) i d

pub false_some : (n : ℕ) (p : ℕ → Bool) → ((i : ℕ) → i < n → p i ≡ false) → some n p ≡ false
unfolding some
false_some zero p h = refl
false_some (suc n) p h = rw (h n (lt-suc_self n)) (false_some n p (λ i l. h i (le_step l)))

pub some_true : (n : ℕ) (p : ℕ → Bool) → some n p ≡ true → (i : ℕ) × (i < n) × (p i ≡ true)
unfolding some
some_true zero p e = absurd (false≢true e)
some_true (suc n) p e = go (p n) refl e (some_true n p)
  where
    go : (b : Bool) → p n ≡ b → (b || some n p) ≡ true → (some n p ≡ true → (i : ℕ) × (i < n) × (p i ≡ true)) → (i : ℕ) × (i < suc n) × (p i ≡ true)
    go true q e ih = (n, lt-suc_self n, q)
    go false q e ih = let (i, l, r) = ih e in (i, le_step l, r)
