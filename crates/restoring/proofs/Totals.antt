-- A column taken for a row: a stripe of one row, whose columns are the column's cells.
--   two_sum                      the sum of that row is the sum of the cells of two columns, one after the other
--   both_columns                 the sums of columns H and D, one after the other
use mathlib.Core.Path.{◌≡◌, sym, ap, ap₂, ◌∙◌}
use mathlib.Core.List.{List}
use Prim.Native.Nat.{ℕ, ◌+◌, ◌*◌, ◌-◌, ◌≤◌, ◌<◌}
use native.Mathlib.Omega.{arith}
use lib.ListN.{get_or}
use Rattle.parity.specs.Xor.{◌⊕◌}
use Rattle.parity.specs.Sum.{sum}
use Rattle.parity.specs.Shape.{column_length}
use Rattle.parity.specs.Equations.{Lane}
use Rattle.parity.specs.Stripe.{byte, lane}
use Rattle.parity.proofs.Sum.{sum_cong, sum_add, sum_join}
use Rattle.cells.proofs.Parts.{part, part_at, parts_end}
use Rattle.lines.specs.Lines.{real, line, span, Sized}
use Rattle.lines.proofs.Lines.{real_in, span_line, column_is}
use Rattle.lines.proofs.Cells.{at_row}
use Rattle.lines.proofs.Equations.{row_at}
use Rattle.lines.proofs.Amounts.{cells_span}

-- a row of n cells that stand at p, within q bytes
module _ (b : ℕ) (s : List ℕ) (p q n l : ℕ) (room : n * b ≤ q) (low : l < b) where
  abbrev row : Lane
  row = lane 2 b (part s p (p + q)) l

  cell : (i : ℕ) → i < n → row 0 i ≡ get_or s (p + (i * b + l)) 0
  unfolding byte column_length
  cell i h =
      let x : i * ((2 - 1) * b) + (0 * b + l) ≡ i * b + l = (let y : (2 - 1) * b ≡ b = omega arith in ap (λ (n : ℕ). i * n + (0 * b + l)) y ∙ omega arith) in
      ap (λ (n : ℕ). get_or (part s p (p + q)) n 0) x ∙ part_at s p (p + q) (i * b + l) (omega (arith, parts_end b h))

  row_sum : span 2 row 0 0 0 n ≡ sum n (λ i. get_or s (p + (i * b + l)) 0)
  unfolding line
  row_sum =
      span_line 2 row 0 0 n ∙ sum_cong n (λ i h. ap (λ (r : ℕ). real 2 row r i) (row_at 2 0 i (omega arith)) ∙ real_in 2 row 0 i (omega arith) ∙ cell i h)

module _ {m b c : ℕ} (z : Sized m b c) where
  module _ (s : List ℕ) (t p l : ℕ) (at : p ≡ t * c) (low : l < b) where
    abbrev f : ℕ → ℕ
    f i = get_or s (p + (i * b + l)) 0

    pub two_sum : span 2 (lane 2 b (part s p (p + 2 * c)) l) 0 0 0 (2 * (m - 1)) ≡ sum (m - 1) (λ i. lane m b s l i t) ⊕ sum (m - 1) (λ i. lane m b s l i (t + 1))
    two_sum =
        row_sum b s p (2 * c) (2 * (m - 1)) l (omega (arith, column_is m b c z)) low
        ∙ ap (λ (n : ℕ). sum n f) (let e : 2 * (m - 1) ≡ m - 1 + (m - 1) = omega arith in e)
        ∙ sum_join (m - 1) (m - 1) f
        ∙ ap₂ ◌⊕◌
        (sum_cong (m - 1) (λ i h. ap (λ (n : ℕ). get_or s (n + (i * b + l)) 0) at ∙ sym (at_row z s t l i)))
        (sum_cong (m - 1) (λ i h.
        let e : p + ((m - 1 + i) * b + l) ≡ (t + 1) * c + (i * b + l) = omega (arith, column_is m b c z) in
        ap (λ (n : ℕ). get_or s n 0) e ∙ sym (at_row z s (t + 1) l i)))

pub both_columns : (m : ℕ) (a : Lane) (k : ℕ) → sum (m - 1) (λ i. a i k) ⊕ sum (m - 1) (λ i. a i (k + 1)) ≡ sum (m - 1) (λ i. span m a 0 i k (k + 2))
both_columns m a k =
    sym (sum_add (m - 1) (λ i. a i k) (λ i. a i (k + 1)))
    ∙ sum_cong (m - 1) (λ i h. ap₂ ◌⊕◌ (sym (real_in m a i k h)) (sym (real_in m a i (k + 1) h)) ∙ sym (cells_span m a i k (omega arith)))
