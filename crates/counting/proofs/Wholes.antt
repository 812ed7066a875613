-- Lines of the test summed from whole columns.
--   whole_row, whole_diagonal, whole_data   line r where D or no column, H, or a data column is left out
use mathlib.Core.Path.{◌≡◌, sym, ap, ap₂, ◌∙◌}
use Prim.Native.Nat.{ℕ, ◌+◌, ◌%◌, ◌≤◌, ◌<◌}
use native.Mathlib.Omega.{arith}
use Rattle.parity.specs.Xor.{◌⊕◌}
use Rattle.parity.specs.Equations.{Lane, back}
use Rattle.parity.proofs.Xor.{⊕_comm}
use Rattle.lines.specs.Lines.{real, span}
use Rattle.lines.specs.Places.{without, window}
use Rattle.lines.proofs.Lines.{back_lt, span_more}
use Rattle.lines.proofs.Equations.{row_at}
use Rattle.lines.proofs.Amounts.{cell_span}
use Rattle.lines.proofs.Places.{window_start}
use Rattle.lines.proofs.Whole.{whole_line, turned_by}
use Rattle.counting.specs.But.{line_but}
use Rattle.counting.proofs.Buts.{window_row, window_data, window_diagonal}

module _ (m k : ℕ) (a : Lane) (u r : ℕ) (inside : r < m) where
  -- a row with its end is one over the data columns and H
  ended_row : (i : ℕ) → i < m → span m (without u u a) 0 i 0 (k + 1) ≡ window m k (without u u a) 0 i 0 k
  ended_row i h =
      let e : k ≡ k + 0 = omega arith in
      sym (span_more m (without u u a) 0 i 0 k)
      ∙ ap (λ (x : ℕ). span m (without u u a) 0 i 0 k ⊕ real m (without u u a) x k) (row_at m i k h)
      ∙ ⊕_comm (span m (without u u a) 0 i 0 k) (real m (without u u a) i k)
      ∙ ap (λ (t : ℕ). real m (without u u a) i t ⊕ span m (without u u a) 0 i 0 k) e
      ∙ sym (window_start m k (without u u a) 0 i k)

  ended_diagonal : span m (without u u a) 1 ((r + 0) % m) 0 k ⊕ span m (without u u a) 0 ((r + 0) % m) (k + 1) (k + 2) ≡ window m k (without u u a) 1 r 0 k
  ended_diagonal =
      let e : k + 2 ≡ k + 1 + 1 = omega arith in
      ap (λ (i : ℕ). span m (without u u a) 1 i 0 k ⊕ span m (without u u a) 0 i (k + 1) (k + 2)) (whole_line inside)
      ∙ ap (λ (x : ℕ). span m (without u u a) 1 r 0 k ⊕ x) (ap (span m (without u u a) 0 r (k + 1)) e ∙ cell_span m (without u u a) r (k + 1) inside)
      ∙ ⊕_comm (span m (without u u a) 1 r 0 k) (real m (without u u a) r (k + 1))
      ∙ sym (window_start m k (without u u a) 1 r k)

  pub whole_row : k < u → span m (without u u a) 0 ((r + 0) % m) 0 (k + 1) ≡ line_but m k a u r
  whole_row h = ap (λ (i : ℕ). span m (without u u a) 0 i 0 (k + 1)) (whole_line inside) ∙ ended_row r inside ∙ window_row m k a u r 0 k h

  pub whole_diagonal : u ≤ k → k ≤ u → span m (without u u a) 1 ((r + 0) % m) 0 k ⊕ span m (without u u a) 0 ((r + 0) % m) (k + 1) (k + 2) ≡ line_but m k a u r
  whole_diagonal h l = ended_diagonal ∙ window_diagonal m k a u r 0 k h l

  pub whole_data : {d : ℕ} → d ≡ back m 0 u → u < k
      → span m (without u u a) 1 ((r + 0) % m) 0 k ⊕ span m (without u u a) 0 ((r + 0) % m) (k + 1) (k + 2) ⊕ span m (without u u a) 0 ((r + d) % m) 0 (k + 1) ≡ line_but m k a u r
  whole_data e h =
      ap₂ ◌⊕◌ ended_diagonal
      (ap (λ (x : ℕ). span m (without u u a) 0 ((r + x) % m) 0 (k + 1)) e ∙ ap (λ (i : ℕ). span m (without u u a) 0 i 0 (k + 1)) (turned_by m r u) ∙ ended_row (back m r u) (back_lt m r u (omega arith)))
      ∙ window_data m k a u r 0 k h
