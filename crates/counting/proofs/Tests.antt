-- The columns other than u fit a valid stripe exactly when no line of `line_but` differs from line m - 1.
--   rest_holds, holds_rest    in one lane, with a column left out: no line differs exactly when the candidate's equations hold
--   none_holds, holds_none    in one lane, with none left out
--   fits_one, fits_none       in all lanes, with a column left out and with none
--   breaks_none               with none left out, where a diagonal breaks
--   broken_rows_lem, broken_diagonals_lem   what is counted are the amounts by which rows and diagonals break
--   row_there, row_none       a row that was found to break, and none
use mathlib.Core.Path.{◌≡◌, sym, ap, ◌∙◌}
use mathlib.Core.Logic.{◌↔◌}
use mathlib.Core.Bool.{not, true, false, false≢true}
use mathlib.Core.List.{List}
use Rattle.std.specs.Prelude.{Some, None}
use Prim.Native.Nat.{ℕ, ◌+◌, ◌-◌, ◌≤◌, ◌<◌}
use native.Mathlib.Omega.{arith}
use lib.Dec.{eqb}
use borrow.Author.Tests.{eq-eqb, eqb-true}
use Rattle.parity.specs.Equations.{Lane, Holds}
use Rattle.parity.specs.Stripe.{lane, broken_rows, broken_diagonals}
use Rattle.parity.specs.Candidate.{candidate, FitsBut}
use Rattle.parity.proofs.Count.{count_cong, some_cong}
use Rattle.parity.proofs.Cells.{holds_same}
use Rattle.parity.proofs.Candidate.{candidate_other, candidate_H}
use Rattle.parity.proofs.Suspects.{hold_h, hold_d, amounts_hold, candidate_H_h, candidate_H_d, candidate_D_h, candidate_D_d}
use Rattle.cells.proofs.Parts.{by_order}
use Rattle.counting.specs.declared.testing.Broken.{Broken}
use Rattle.counting.specs.Counting.{breaking, Found, BrokenRow}
use Rattle.counting.proofs.Buts.{rest, rest_H, rest_D, rest_data}
use Rattle.counting.proofs.Found.{found_none, none_found}

module _ (m k : ℕ) (big : 1 < m) (few : k ≤ m) (a : Lane) where
  abbrev rests : ℕ → ℕ → ℕ
  rests = rest m k big few a

  rest_holds : (u : ℕ) → u < k + 2 → ((i : ℕ) → i < m - 1 → rests u i ≡ 0) → Holds m k (candidate m k a u)
  rest_holds u h e = by_order (Holds m k (candidate m k a u)) u k
      (λ low. amounts_hold m k (candidate m k a u) (candidate_H m k a few u low) (λ i l. sym (rest_data m k big few a u i low l) ∙ e i l))
      (λ high. by_order (Holds m k (candidate m k a u)) u (k + 1)
      (λ low. let q : u ≡ k = omega arith in
      rw q (amounts_hold m k (candidate m k a k) (λ i l. candidate_H_h m k a i) (λ i l. candidate_H_d m k a i ∙ sym (rest_H m k big few a i l) ∙ (rw q at (e i l)))))
      (λ high. let q : u ≡ k + 1 = omega arith in
      rw q (amounts_hold m k (candidate m k a (k + 1)) (λ i l. candidate_D_h m k a i ∙ sym (rest_D m k big few a i l) ∙ (rw q at (e i l))) (λ i l. candidate_D_d m k a i))))

  holds_rest : (u : ℕ) → u < k + 2 → Holds m k (candidate m k a u) → (i : ℕ) → i < m - 1 → rests u i ≡ 0
  holds_rest u h v i l = by_order (rests u i ≡ 0) u k
      (λ low. rest_data m k big few a u i low l ∙ hold_d m k (candidate m k a u) v i l)
      (λ high. by_order (rests u i ≡ 0) u (k + 1)
      (λ low. let q : u ≡ k = omega arith in
      rw q (rest_H m k big few a i l ∙ sym (candidate_H_d m k a i) ∙ hold_d m k (candidate m k a k) (rw q at v) i l))
      (λ high. let q : u ≡ k + 1 = omega arith in
      rw q (rest_D m k big few a i l ∙ sym (candidate_D_h m k a i) ∙ hold_h m k (candidate m k a (k + 1)) (rw q at v) i l)))

  -- no column is left out
  none_holds : (u : ℕ) → k + 2 ≤ u → ((i : ℕ) → i < m - 1 → rests k i ≡ 0) → ((i : ℕ) → i < m - 1 → rests (k + 1) i ≡ 0) → Holds m k (candidate m k a u)
  none_holds u h d r = holds_same m k a (candidate m k a u) (λ i t _ l. sym (candidate_other m k a u i t (λ e. absurd (omega arith))))
      (amounts_hold m k a (λ i l. sym (rest_D m k big few a i l) ∙ r i l) (λ i l. sym (rest_H m k big few a i l) ∙ d i l))

  holds_none : (u : ℕ) → k + 2 ≤ u → Holds m k (candidate m k a u) → Holds m k a
  holds_none u h = holds_same m k (candidate m k a u) a (λ i t _ l. candidate_other m k a u i t (λ e. absurd (omega arith)))

module _ (m k b : ℕ) (big : 1 < m) (few : k ≤ m) (s : List ℕ) (u : ℕ) where
  -- one line that differs from line m - 1, of those that leave column u out, is enough
  abbrev FoundOne : ℕ → Broken → Type 0
  FoundOne u r = Found 1 (m - 1) b (λ l i. rest m k big few (lane m b s l) u i) r

  all_zero : (u : ℕ) {r : Broken} → FoundOne u r → r.count ≡ 0 → (l : ℕ) → l < b → (i : ℕ) → i < m - 1 → rest m k big few (lane m b s l) u i ≡ 0
  all_zero u p z l hl i hi = found_none p (omega arith) z i l hi hl

  pub fits_one : (r : Broken) → u < k + 2 → FoundOne u r → (eqb r.count 0 ≡ true) ↔ FitsBut m k b u s
  fits_one r h p = (
    λ z l hl. rest_holds m k big few (lane m b s l) u h (all_zero u p (eqb-true r.count 0 z) l hl),
    λ f. eq-eqb r.count 0 (none_found p (λ i l hi hl. holds_rest m k big few (lane m b s l) u h (f l hl) i hi)),
  )

  module _ (h : k + 2 ≤ u) (d : Broken) (diagonals : FoundOne k d) where
    no_diagonal : FitsBut m k b u s → d.count ≡ 0
    no_diagonal f = none_found diagonals (λ i l hi hl.
        rest_H m k big few (lane m b s l) i hi ∙ hold_d m k (lane m b s l) (holds_none m k big few (lane m b s l) u h (f l hl)) i hi)

    pub breaks_none : (d.count ≡ 0 → ⊥) → (false ≡ true) ↔ FitsBut m k b u s
    breaks_none ne = (λ e. absurd (false≢true e), λ f. absurd (ne (no_diagonal f)))

    pub fits_none : d.count ≡ 0 → (r : Broken) → FoundOne (k + 1) r → (eqb r.count 0 ≡ true) ↔ FitsBut m k b u s
    fits_none z r p = (
      λ x l hl. none_holds m k big few (lane m b s l) u h (all_zero k diagonals z l hl) (all_zero (k + 1) p (eqb-true r.count 0 x) l hl),
      λ f. eq-eqb r.count 0 (none_found p (λ i l hi hl.
          rest_D m k big few (lane m b s l) i hi ∙ hold_h m k (lane m b s l) (holds_none m k big few (lane m b s l) u h (f l hl)) i hi)),
    )

module _ (m k b : ℕ) (big : 1 < m) (few : k ≤ m) (s : List ℕ) where
  pub broken_rows_lem : breaking (m - 1) b (λ l i. rest m k big few (lane m b s l) (k + 1) i) ≡ broken_rows m k b s
  unfolding breaking broken_rows
  broken_rows_lem = count_cong (m - 1) (λ i h. some_cong b (λ l _. ap (λ (v : ℕ). not (eqb v 0)) (rest_D m k big few (lane m b s l) i h)))

  pub broken_diagonals_lem : breaking (m - 1) b (λ l i. rest m k big few (lane m b s l) k i) ≡ broken_diagonals m k b s
  unfolding breaking broken_diagonals
  broken_diagonals_lem = count_cong (m - 1) (λ i h. some_cong b (λ l _. ap (λ (v : ℕ). not (eqb v 0)) (rest_H m k big few (lane m b s l) i h)))

  module _ (r : Broken) (p : Found 1 (m - 1) b (λ l i. rest m k big few (lane m b s l) (k + 1) i) r) where
    pub row_there : (r.count ≡ 0 → ⊥) → BrokenRow m k b s (Some r.last)
    row_there ne = let q = p.there (omega arith) in (q.0, λ so. q.1 (λ l hl. rest_D m k big few (lane m b s l) r.last q.0 ∙ so l hl))

    pub row_none : r.count ≡ 0 → BrokenRow m k b s None
    row_none e l i hl hi = sym (rest_D m k big few (lane m b s l) i hi) ∙ found_none p (omega arith) e i l hi hl
