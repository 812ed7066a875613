-- The amounts by which a lane's equations break, as the lines that the loops follow.
--   cell_span, cells_span   a row over one column is one cell, and over two columns two
--   row_amount_line   the amount of row r is line r of slant 0 over the data columns and H; of the imaginary row both are zero
--   diagonal_lines    the amount of diagonal i is S, line i of slant 1 and D's cell
use mathlib.Core.Path.{◌≡◌, sym, ap, ap₂, ◌∙◌}
use Prim.Native.Nat.{ℕ, ◌+◌, ◌-◌, ◌≤◌, ◌<◌}
use native.Mathlib.Omega.{arith}
use Rattle.parity.specs.Xor.{◌⊕◌}
use Rattle.parity.specs.Equations.{Lane, amount_d}
use Rattle.parity.proofs.Xor.{zero_⊕, xor}
use Rattle.parity.proofs.Sum.{sum_none}
use Rattle.parity.proofs.Candidate.{row_amount, row_amount_lem, row_amount_last}
use Rattle.cells.proofs.Parts.{by_order}
use Rattle.lines.specs.Lines.{real, line, span}
use Rattle.lines.proofs.Lines.{real_in, real_out, span_none, span_more}
use Rattle.lines.proofs.Equations.{S_line, D_line, row_at, row_line}

module _ (m : ℕ) (a : Lane) where
  pub cell_span : (i t : ℕ) → i < m → span m a 0 i t (t + 1) ≡ real m a i t
  cell_span i t h =
      sym (span_more m a 0 i t t) ∙ ap₂ ◌⊕◌ (span_none m a 0 i t) (ap (λ (r : ℕ). real m a r t) (row_at m i t h)) ∙ zero_⊕ (real m a i t)

  pub cells_span : (i k : ℕ) → i < m → span m a 0 i k (k + 2) ≡ real m a i k ⊕ real m a i (k + 1)
  cells_span i k h =
      let e : k + 2 ≡ k + 1 + 1 = omega arith in
      ap (span m a 0 i k) e ∙ sym (span_more m a 0 i k (k + 1)) ∙ ap₂ ◌⊕◌ (cell_span i k h) (ap (λ (r : ℕ). real m a r (k + 1)) (row_at m i (k + 1) h))

  imaginary_row : (i n : ℕ) → i < m → m - 1 ≤ i → line m a 0 i n ≡ 0
  unfolding line
  imaginary_row i n h out = sum_none n (λ t _. ap (λ (r : ℕ). real m a r t) (row_at m i t h) ∙ real_out m a i t out)

module _ (m k : ℕ) (few : k ≤ m) (a : Lane) where
  pub row_amount_line : (r : ℕ) → r < m → row_amount m k a r ≡ line m a 0 r (k + 1)
  row_amount_line r h = by_order (row_amount m k a r ≡ line m a 0 r (k + 1)) r (m - 1)
      (λ low. row_amount_lem m k a r low ∙ row_line m k few a r low)
      (λ high. row_amount_last m k a r high ∙ sym (imaginary_row m a r (k + 1) h high))

  pub diagonal_lines : 1 < m → (i : ℕ) → i < m - 1 → amount_d m k a i ≡ line m a 1 (m - 1) k ⊕ (line m a 1 i k ⊕ real m a i (k + 1))
  unfolding amount_d
  diagonal_lines big i h =
      ap₂ ◌⊕◌ (sym (real_in m a i (k + 1) h)) (D_line m k few a i ∙ ap (λ (x : ℕ). x ⊕ line m a 1 i k) (S_line m k few a big))
      ∙ tidy (real m a i (k + 1)) (line m a 1 (m - 1) k) (line m a 1 i k)
    where
      tidy : (d s x : ℕ) → d ⊕ (s ⊕ x) ≡ s ⊕ (x ⊕ d)
      tidy d s x = simp xor
