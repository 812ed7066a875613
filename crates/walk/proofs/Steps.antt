-- One step of the walk, from row `from` to row `to`.
--   row_end       a row lies within its half, and a half is not long
--   row_before    a row that begins before another ends before it
--   stepped       what the step's two additions make of a lane: w is the buffer before, u between, v after them
--   step_real     both additions at once, from a real row
--   step_last     the second alone, from row m - 1, which is zero
use mathlib.Core.Path.{◌≡◌, sym, ap, ap₂, ◌∙◌}
use mathlib.Core.List.{List}
use Prim.Native.Nat.{ℕ, ◌+◌, ◌*◌, ◌-◌, ◌≤◌, ◌<◌}
use native.Mathlib.Nat.{mul-le-mul_right}
use native.Mathlib.Omega.{arith}
use lib.ListN.{get_or}
use Rattle.parity.specs.Xor.{◌⊕◌}
use Rattle.parity.specs.Shape.{column_length}
use Rattle.parity.specs.Stripe.{lane}
use Rattle.parity.proofs.Xor.{⊕_zero}
use Rattle.cells.specs.Runs.{Put, Through}
use Rattle.cells.proofs.Parts.{parts_end, by_order}
use Rattle.cells.proofs.Puts.{put_same, put_kept}
use Rattle.lines.specs.Lines.{real, Sized}
use Rattle.lines.proofs.Lines.{real_in, real_out, column_most}
use Rattle.lines.proofs.Cells.{cell_end, cell_at, cell_set, other_row, other_column}
use Rattle.walk.specs.Walk.{Stepped}

pub row_end : {m b c r : ℕ} → Sized m b c → r < m - 1 → (r * b + b ≤ c) × (c ≤ 516096)
row_end {m} {b} {c} {r} z h = (omega (arith, cell_end m b r h, z.column), column_most m b c z)

pub row_before : (x y b : ℕ) → x * b < y * b → x * b + b ≤ y * b
row_before x y b h = by_order (x * b + b ≤ y * b) x y (parts_end b) (λ l. absurd (omega (arith, mul-le-mul_right b l)))

module _ (m b : ℕ) {w v : List ℕ} {p q : ℕ} (from to : ℕ) (there : to < m - 1) (first : p ≡ 0 * column_length m b + to * b) (second : q ≡ 1 * column_length m b + to * b) where
  stepped : {u : List ℕ} → Put w u q b (λ l. lane m b w l to 1 ⊕ real m (lane m b w l) from 0) → Put u v p b (λ l. get_or u (p + l) 0 ⊕ get_or u (q + l) 0)
      → (l : ℕ) → l < b → Stepped m from to (lane m b w l) (lane m b v l)
  stepped {u} x y l h = record {
    second = in_second to there ∙ cell_set m b to 1 second x l h;
    first = cell_set m b to 0 first y l h
        ∙ ap₂ ◌⊕◌ (sym (cell_at m b to 0 first u l) ∙ in_first to there) (sym (in_second to there ∙ cell_at m b to 1 second u l));
    other = λ i hi ne. (other_row m b to 0 first y l i h ne ∙ in_first i hi, in_second i hi ∙ other_row m b to 1 second x l i h ne);
  }
    where
      in_first : (i : ℕ) → i < m - 1 → lane m b u l i 0 ≡ lane m b w l i 0
      in_first i hi = other_column m b to 1 second x there l i 0 h hi (λ e. absurd (omega arith))

      in_second : (i : ℕ) → i < m - 1 → lane m b v l i 1 ≡ lane m b u l i 1
      in_second i hi = other_column m b to 0 first y there l i 1 h hi (λ e. absurd (omega arith))

  pub step_real : {r : ℕ} → from < m - 1 → r ≡ 0 * column_length m b + from * b → Through w v r q p b → (l : ℕ) → l < b → Stepped m from to (lane m b w l) (lane m b v l)
  step_real h at x = stepped (put_same x.first (λ l _.
      ap₂ ◌⊕◌ (sym (cell_at m b to 1 second w l)) (sym (real_in m (lane m b w l) from 0 h ∙ cell_at m b from 0 at w l)))) x.second

  pub step_last : m - 1 ≤ from → Put w v p b (λ l. get_or w (p + l) 0 ⊕ get_or w (q + l) 0) → (l : ℕ) → l < b → Stepped m from to (lane m b w l) (lane m b v l)
  step_last h x = stepped (put_kept w q b _ (λ l _.
      sym (ap (λ (n : ℕ). lane m b w l to 1 ⊕ n) (real_out m (lane m b w l) from 0 h) ∙ ⊕_zero (lane m b w l to 1) ∙ cell_at m b to 1 second w l))) x
