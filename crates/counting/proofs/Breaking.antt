-- Cells at places that were listed, and counting what is not zero.
--   listed_total   places that were listed first, lent as a part: what their cells add up to
--   breaking_zero, zero_breaking   nothing is counted exactly where all is zero
--   breaking-…                one line more, the same bytes by another name, and more lines after the first
use mathlib.Core.Path.{◌≡◌, refl, sym, ap, ◌∙◌}
use mathlib.Core.Bool.{Bool, true, false, cond, not}
use mathlib.Core.List.{List}
use Prim.Native.Nat.{ℕ, zero, suc, ◌+◌, ◌≤◌, ◌<◌}
use native.Mathlib.Numerals.{add-one}
use native.Mathlib.Omega.{arith}
use lib.ListN.{length}
use lib.Dec.{eqb}
use borrow.Author.Tests.{eq-eqb, eqb-true}
use Rattle.parity.specs.Xor.{◌⊕◌}
use Rattle.parity.specs.Sum.{count, some}
use Rattle.parity.proofs.Xor.{zero_⊕}
use Rattle.parity.proofs.Count.{count_cong, none_pass, all_fail, some_cong, some_false, false_some}
use Rattle.cells.specs.Runs.{Tells}
use Rattle.cells.proofs.Parts.{part}
use Rattle.lines.specs.Places.{total, Listed}
use Rattle.lines.proofs.Places.{total_none, total_part}
use Rattle.counting.specs.Counting.{breaking}

-- ---- places

module _ {b z n more : ℕ} {at at' : List ℕ} {f : List ℕ → ℕ → ℕ} (p : Listed b z 0 n more at at' f) (room : more ≤ length at) where
  listed_room : n ≤ length at'
  listed_room = omega (arith, p.most, p.size)

  pub listed_total : (s : List ℕ) (l : ℕ) → total (part at' 0 n) (length (part at' 0 n)) s l ≡ f s l
  listed_total s l = total_part at' n listed_room s l ∙ p.sums s l ∙ ap (λ (x : ℕ). x ⊕ f s l) (total_none at s l) ∙ zero_⊕ (f s l)

-- ---- counting

not_not : (x : Bool) → not x ≡ false → x ≡ true
not_not true e = refl
not_not false e = sym e

module _ (b : ℕ) (f : ℕ → ℕ → ℕ) where
  pub breaking_zero : (n : ℕ) → breaking n b f ≡ 0 → (i l : ℕ) → i < n → l < b → f l i ≡ 0
  unfolding breaking
  breaking_zero n e i l h k = eqb-true (f l i) 0 (not_not (eqb (f l i) 0) (some_false b _ (none_pass n _ e i h) l k))

  pub zero_breaking : (n : ℕ) → ((i l : ℕ) → i < n → l < b → f l i ≡ 0) → breaking n b f ≡ 0
  unfolding breaking
  zero_breaking n so = all_fail n _ (λ i h. false_some b _ (λ l k. ap not (eq-eqb (f l i) 0 (so i l h k))))

  module _ (r i : ℕ) (t : Tells r b (λ l. f l i)) where
    tells_not : r ≡ 0 → some b (λ l. not (eqb (f l i) 0)) ≡ false
    tells_not e = false_some b _ (λ l h. ap not (eq-eqb _ _ (t.none e l h)))

    not_tells : some b (λ l. not (eqb (f l i) 0)) ≡ false → r ≡ 0
    not_tells e = t.all (λ l h. eqb-true _ _ (not_not (eqb (f l i) 0) (some_false b _ e l h)))

    pub breaking_same : r ≡ 0 → breaking (i + 1) b f ≡ breaking i b f
    unfolding breaking count
    breaking_same e = rw (add-one i, tells_not e)

    pub breaking_more : (r ≡ 0 → ⊥) → breaking (i + 1) b f ≡ breaking i b f + 1
    unfolding breaking count
    breaking_more ne = rw (add-one i, add-one (breaking i b f)) (go (some b (λ l. not (eqb (f l i) 0))) refl)
      where
        go : (x : Bool) → some b (λ l. not (eqb (f l i) 0)) ≡ x → cond (some b (λ l. not (eqb (f l i) 0))) (suc (breaking i b f)) (breaking i b f) ≡ suc (breaking i b f)
        go true e = rw e
        go false e = absurd (ne (not_tells e))

pub breaking_cong : (n b : ℕ) {f g : ℕ → ℕ → ℕ} → ((i l : ℕ) → i < n → l < b → f l i ≡ g l i) → breaking n b f ≡ breaking n b g
unfolding breaking
breaking_cong n b so = count_cong n (λ i h. some_cong b (λ l k. ap (λ (v : ℕ). not (eqb v 0)) (so i l h k)))

-- lines after the first x
count_next : (x n : ℕ) (p : ℕ → Bool) → count (x + n) p ≡ count x p + count n (λ i. p (x + i))
unfolding count
count_next x zero p = let e : x + 0 ≡ x = omega arith in ap (λ (y : ℕ). count y p) e ∙ omega arith
count_next x (suc n) p =
    let e : x + suc n ≡ suc (x + n) = omega arith in
    ap (λ (y : ℕ). count y p) e ∙ go (p (x + n)) (count (x + n) p) (count n (λ i. p (x + i))) (count_next x n p)
  where
    go : (c : Bool) (y z : ℕ) → y ≡ count x p + z → cond c (suc y) y ≡ count x p + cond c (suc z) z
    go true y z e = omega arith
    go false y z e = e

pub breaking_next : (x n b : ℕ) (f : ℕ → ℕ → ℕ) → breaking (x + n) b f ≡ breaking x b f + breaking n b (λ l i. f l (x + i))
unfolding breaking
breaking_next x n b f = count_next x n (λ i. some b (λ l. not (eqb (f l i) 0)))
