-- Where a cell stands in a buffer, and a buffer in which one cell was set: its lanes are what was put there, all other cells are as they were.
--   cell_end       a cell lies within its column
--   cell_at        a byte of a cell, by its place
--   at_row         the same, by the row
--   cell_set       the cell itself
--   other_row      the other cells of its column
--   other_column   the cells of another column
--   cell_kept      the cells of the first n columns, where all bytes of these are as they were
--   cells_fit, cells_room   how many cells of b bytes n bytes have room for
use mathlib.Core.Path.{◌≡◌, sym, ap, ◌∙◌}
use mathlib.Core.Logic.{◌≢◌}
use mathlib.Core.List.{List}
use Prim.Native.Nat.{ℕ, ◌+◌, ◌*◌, ◌-◌, ◌/◌, ◌≤◌, ◌<◌}
use native.Mathlib.Nat.{div-mul-le_self, le-div_iff_mul-le, le_trans, mul-le-mul_right}
use native.Mathlib.Omega.{arith}
use lib.Arith.{digits_lt}
use lib.ListN.{get_or}
use Rattle.parity.specs.Shape.{column_length}
use Rattle.parity.specs.Stripe.{byte, lane}
use Rattle.cells.specs.Runs.{Put}
use Rattle.cells.proofs.Parts.{parts_end, by_order}
use Rattle.lines.specs.Lines.{Sized}

pub cell_end : (m b x : ℕ) → x < m - 1 → x * b + b ≤ column_length m b
unfolding column_length
cell_end m b x h = parts_end b h

-- one is below the other
apart : (P : Type 0) (x y : ℕ) → x ≢ y → (x < y → P) → (y < x → P) → P
apart P x y ne f g = by_order P x y f (λ h. g (omega (arith, ne)))

pub cell_at : (m b r t : ℕ) {p : ℕ} → p ≡ t * column_length m b + r * b → (s : List ℕ) (l : ℕ) → lane m b s l r t ≡ get_or s (p + l) 0
unfolding byte
cell_at m b r t {p} at s l =
    let e : t * column_length m b + (r * b + l) ≡ p + l = omega arith in
    ap (λ (x : ℕ). get_or s x 0) e

pub at_row : {m b c : ℕ} → Sized m b c → (s : List ℕ) (t l i : ℕ) → lane m b s l i t ≡ get_or s (t * c + (i * b + l)) 0
unfolding byte
at_row {b = b} z s t l i = ap (λ (n : ℕ). get_or s (t * n + (i * b + l)) 0) (sym z.column)

module _ (m b : ℕ) {s v : List ℕ} {p : ℕ} {f : ℕ → ℕ} (r t : ℕ) (at : p ≡ t * column_length m b + r * b) (q : Put s v p b f) where
  pub cell_set : (l : ℕ) → l < b → lane m b v l r t ≡ f l
  cell_set l h = cell_at m b r t at v l ∙ q.inside l h

  pub other_row : (l x : ℕ) → l < b → x ≢ r → lane m b v l x t ≡ lane m b s l x t
  unfolding byte
  other_row l x h ne = apart (lane m b v l x t ≡ lane m b s l x t) x r ne
      (λ e. q.before _ (omega (arith, parts_end b e)))
      (λ e. q.after _ (omega (arith, parts_end b e)))

  pub other_column : r < m - 1 → (l x y : ℕ) → l < b → x < m - 1 → y ≢ t → lane m b v l x y ≡ lane m b s l x y
  unfolding byte
  other_column hr l x y h hx ne = apart (lane m b v l x y ≡ lane m b s l x y) y t ne
      (λ e. q.before _ (omega (arith, parts_end (column_length m b) e, cell_end m b x hx)))
      (λ e. q.after _ (omega (arith, parts_end (column_length m b) e, cell_end m b r hr)))

pub cell_kept : (m b n : ℕ) (s v : List ℕ) → ((p : ℕ) → p < n * column_length m b → get_or v p 0 ≡ get_or s p 0)
    → (l r t : ℕ) → l < b → r < m - 1 → t < n → lane m b v l r t ≡ lane m b s l r t
unfolding byte column_length
cell_kept m b n s v kept l r t hl hr ht = kept (t * column_length m b + (r * b + l)) (digits_lt ht (digits_lt hr hl))

pub cells_fit : (r b n : ℕ) → 0 < b → r * b ≤ n → r ≤ n / b
cells_fit r b n full h = (le-div_iff_mul-le {k = b} {x = r} {y = n} full).1 h

pub cells_room : (r b n : ℕ) → r ≤ n / b → r * b ≤ n
cells_room r b n h = le_trans (mul-le-mul_right b h) (div-mul-le_self n b)
