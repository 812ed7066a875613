-- If only column u of a lane is wrong, there is one way to put it right. Column H and the data columns are put right by the rows,
-- column D by the diagonals. In what follows w is a lane whose equations hold, and a is the same as w in every column but u.
--   amount_h_only        for u up to k each row of a breaks by what column u of a and w differ by
--   amount_d_only        for u = k + 1 each diagonal does
--   candidate_h, -d     the candidate's column u, by rows and by diagonals
--   candidate_other     its other columns are a's
--   candidate_only      its column u is w's
--   candidate_same      so it is the same as w
--   candidate_holds     and its equations hold
-- Whatever lane a is, its candidate for a data column u breaks no row, and diagonal i by what a breaks it by and the amounts of two rows.
--   row_amount m k a r   the amount by which row r breaks; zero for row m - 1
--   candidate_H, -D     the amounts by which the candidate's rows and diagonals break
use mathlib.Core.Path.{◌≡◌, refl, sym, ap, ap₂, ◌∙◌}
use mathlib.Core.Logic.{◌≢◌, ◌⊎◌, inl, inr}
use mathlib.Core.Bool.{cond}
use Prim.Native.Nat.{ℕ, ◌+◌, ◌-◌, ◌≤◌, ◌<◌}
use native.Mathlib.Nat.{eq-or-lt_of_le}
use native.Mathlib.Decide.{ℕ_discrete, dec_le, dec_lt}
use native.Mathlib.Omega.{arith}
use lib.Dec.{ltb}
use borrow.Author.Tests.{eq-eqb, ne_eqb, le-leb, lt-leb, lt-ltb, le-ltb}
use Rattle.parity.specs.Xor.{◌⊕◌}
use Rattle.parity.specs.Sum.{sum}
use Rattle.parity.specs.Equations.{Lane, cell, back, H, S, D, amount_h, amount_d, Holds}
use Rattle.parity.specs.Candidate.{candidate}
use Rattle.parity.proofs.Xor.{⊕_comm, ⊕_self, ⊕_cancel, xor, by_sum}
use Rattle.parity.proofs.Sum.{sum_add, sum_one}
use Rattle.parity.proofs.Cells.{diagonal, S_diagonal, cell_real, cell_below, cell_same, H_same, D_same, holds_same}

module _ (m k : ℕ) (a : Lane) where
  pub candidate_h : (u i : ℕ) → u ≤ k → candidate m k a u i u ≡ a i u ⊕ amount_h m k a i
  unfolding candidate
  candidate_h u i l = rw (eq-eqb u u refl, le-leb u k l)

  pub candidate_d : (i : ℕ) → candidate m k a (k + 1) i (k + 1) ≡ a i (k + 1) ⊕ amount_d m k a i
  unfolding candidate
  candidate_d i = rw (eq-eqb (k + 1) (k + 1) refl, lt-leb (k + 1) k (omega arith))

  pub candidate_other : (u i t : ℕ) → t ≢ u → candidate m k a u i t ≡ a i t
  unfolding candidate
  candidate_other u i t ne = rw (ne_eqb t u ne)

module _ (m k u : ℕ) (a w : Lane) (holds : Holds m k w) (same : (i t : ℕ) → i < m - 1 → t < k + 2 → t ≢ u → a i t ≡ w i t) where
  pub amount_h_only : k ≤ m → u ≤ k → (i : ℕ) → i < m - 1 → amount_h m k a i ≡ a i u ⊕ w i u
  unfolding amount_h H
  amount_h_only few c i l = pick (eq-or-lt_of_le c)
    where
      pick : (u ≡ k) ⊎ (u < k) → a i k ⊕ H m k a i ≡ a i u ⊕ w i u
      pick (inl e) = ap₂ ◌⊕◌ (ap (a i) (sym e)) (H_same m k a w (λ i t l c. same i t l (omega arith) (omega arith)) i ∙ sym (holds.h i l) ∙ ap (w i) (sym e))
      pick (inr c) =
          ap (λ x. x ⊕ H m k a i) (same i k l (omega arith) (omega arith) ∙ holds.h i l)
          ∙ ⊕_comm (H m k w i) (H m k a i)
          ∙ sym (sum_add m (cell m k a i) (cell m k w i))
          ∙ sum_one m u (omega arith) (λ t _ ne. ap (λ x. x ⊕ cell m k w i t) (cell_same m k a w i t (λ l c. same i t l (omega arith) ne)) ∙ ⊕_self (cell m k w i t))
          ∙ ap₂ ◌⊕◌ (cell_real m k a i u l c) (cell_real m k w i u l c)

  pub amount_d_only : u ≡ k + 1 → (i : ℕ) → i < m - 1 → amount_d m k a i ≡ a i u ⊕ w i u
  unfolding amount_d
  amount_d_only e i l =
      ap₂ ◌⊕◌ (ap (a i) (sym e)) (D_same m k a w (λ i t l c. same i t l (omega arith) (omega arith)) i ∙ sym (holds.d i l) ∙ ap (w i) (sym e))

  module _ (few : k ≤ m) (inside : u < k + 2) where
    pub candidate_only : (i : ℕ) → i < m - 1 → w i u ≡ candidate m k a u i u
    candidate_only i l = sym (pick (dec_le u k))
      where
        pick : Dec (u ≤ k) → candidate m k a u i u ≡ w i u
        pick (yes c) = candidate_h m k a u i c ∙ ap (λ x. a i u ⊕ x) (amount_h_only few c i l) ∙ ⊕_cancel (a i u) (w i u)
        pick (no c) =
            let e : u ≡ k + 1 = omega arith in
            (rw e (candidate_d m k a i)) ∙ ap (λ x. a i u ⊕ x) (amount_d_only e i l) ∙ ⊕_cancel (a i u) (w i u)

    pub candidate_same : (i t : ℕ) → i < m - 1 → t < k + 2 → candidate m k a u i t ≡ w i t
    candidate_same i t l c = pick (ℕ_discrete t u)
      where
        pick : Dec (t ≡ u) → candidate m k a u i t ≡ w i t
        pick (yes e) = rw e (sym (candidate_only i l))
        pick (no ne) = candidate_other m k a u i t ne ∙ same i t l c ne

    pub candidate_holds : Holds m k (candidate m k a u)
    candidate_holds = holds_same m k w (candidate m k a u) (λ i t l c. sym (candidate_same i t l c)) holds

-- ---- the candidate for a data column breaks no row

unfoldable pub row_amount : ℕ → ℕ → Lane → ℕ → ℕ
row_amount m k a r = cond (ltb r (m - 1)) (amount_h m k a r) 0

module _ (m k : ℕ) (a : Lane) where
  pub row_amount_lem : (r : ℕ) → r < m - 1 → row_amount m k a r ≡ amount_h m k a r
  unfolding row_amount
  row_amount_lem r l = rw (lt-ltb r (m - 1) l)

  pub row_amount_last : (r : ℕ) → m - 1 ≤ r → row_amount m k a r ≡ 0
  unfolding row_amount
  row_amount_last r l = rw (le-ltb r (m - 1) l)

  module _ (few : k ≤ m) (u : ℕ) (inside : u < k) where
    -- its cells are a's, with the rows' amounts added in column u
    cell_changed : (r : ℕ) → cell m k (candidate m k a u) r u ⊕ cell m k a r u ≡ row_amount m k a r
    cell_changed r = elim (dec_lt r (m - 1)) [
      | yes l ↦ ap₂ ◌⊕◌ (cell_real m k (candidate m k a u) r u l inside ∙ candidate_h m k a u r (omega arith)) (cell_real m k a r u l inside)
          ∙ sym (row_amount_lem r l ∙ by_sum (⊕_self (a r u)) (simp xor))
      | no l ↦ ap₂ ◌⊕◌ (cell_below m k (candidate m k a u) r u (omega arith)) (cell_below m k a r u (omega arith)) ∙ ⊕_self 0 ∙ sym (row_amount_last r (omega arith))
    ]

    -- so a sum of one cell of each column grows by the amount of its row in column u
    sum_changed : (p : ℕ → ℕ) → sum m (λ t. cell m k (candidate m k a u) (p t) t) ≡ sum m (λ t. cell m k a (p t) t) ⊕ row_amount m k a (p u)
    sum_changed p = by_sum (
        sym (sum_add m (λ t. cell m k (candidate m k a u) (p t) t) (λ t. cell m k a (p t) t))
        ∙ sum_one m u (omega arith) (λ t _ ne. ap (λ x. x ⊕ cell m k a (p t) t) (cell_same m k (candidate m k a u) a (p t) t (λ l c. candidate_other m k a u (p t) t ne)) ∙ ⊕_self (cell m k a (p t) t))
        ∙ cell_changed (p u)) (simp xor)

pub candidate_H : (m k : ℕ) (a : Lane) → k ≤ m → (u : ℕ) → u < k → (i : ℕ) → i < m - 1 → amount_h m k (candidate m k a u) i ≡ 0
unfolding amount_h H
candidate_H m k a few u inside i l =
    ap₂ ◌⊕◌ (candidate_other m k a u i k (omega arith)) (sum_changed m k a few u inside (λ _. i) ∙ ap (λ x. H m k a i ⊕ x) (row_amount_lem m k a i l)) ∙ simp xor

pub candidate_D : (m k : ℕ) (a : Lane) → 1 < m → k ≤ m → (u : ℕ) → u < k → (i : ℕ) → i < m - 1
    → amount_d m k (candidate m k a u) i ≡ amount_d m k a i ⊕ (row_amount m k a (back m i u) ⊕ row_amount m k a (back m (m - 1) u))
unfolding amount_d D diagonal
candidate_D m k a big few u inside i l =
    ap₂ ◌⊕◌ (candidate_other m k a u i (k + 1) (omega arith)) (ap₂ ◌⊕◌ special (sum_changed m k a few u inside (back m i))) ∙ simp xor
  where
    special : S m k (candidate m k a u) ≡ S m k a ⊕ row_amount m k a (back m (m - 1) u)
    special = S_diagonal m k (candidate m k a u) big ∙ sum_changed m k a few u inside (back m (m - 1)) ∙ ap (λ x. x ⊕ row_amount m k a (back m (m - 1) u)) (sym (S_diagonal m k a big))
