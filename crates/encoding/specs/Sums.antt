-- Sums over the data columns of a stripe, in its columns H and D, which stand apart from them.
--   Data g s               s is the data columns of a stripe of that shape
--   Group g s x y          and the columns from x up to y are at most eight of them
--   over x y               the columns from x up to y: none is left out, since no stripe has column 129
--   spans g s e x y i l    line i of slant e over the data columns from x up to y, at lane l
--   Grown g s x y h h' d d'   h became h', and d became d': to each row of h that row over the columns from x up to y was added, to each row of d the
--                          diagonal. Where the columns are the first, nothing was kept of h, and of d the last cell, for every row
--   Summed g s h h' d d'   the same of all columns: h' is the sums of the rows, d' d's last cell plus those of the diagonals
use Rattle.std.specs.Prelude.{◌≡◌, List, ℕ, ◌+◌, ◌-◌, ◌*◌, ◌≤◌, length, get_or}
use Rattle.parity.specs.Xor.{◌⊕◌}
use Rattle.parity.specs.Stripe.{lane}
use Rattle.lines.specs.declared.Columns.{Columns}
use Rattle.lines.specs.declared.Grid.{Grid}
use Rattle.lines.specs.Lines.{line, span, Sized}
use Rattle.lines.specs.Rows.{Lined}
use Rattle.sums.specs.Sums.{begun}

pub record Data (g : Grid) (s : List ℕ) : Type 0 where
  pub sized : Sized g.m g.b g.column
  pub some : 1 ≤ g.k
  pub few : g.k ≤ g.m
  pub whole : length s ≡ g.k * g.column

pub record Group (g : Grid) (s : List ℕ) (x y : ℕ) : Type 0 where
  pub all : Data g s
  pub order : x ≤ y
  pub most : y ≤ g.k
  pub few : y ≤ x + 8

abbrev pub over : ℕ → ℕ → Columns
over x y = record { from = x; to = y; u = 129; v = 129 }

abbrev pub spans : Grid → List ℕ → ℕ → ℕ → ℕ → ℕ → ℕ → ℕ
spans g s e x y i l = span g.m (lane g.m g.b s l) e i x y

pub record Grown (g : Grid) (s : List ℕ) (x y : ℕ) (h h' d d' : List ℕ) : Type 0 where
  pub rows : Lined (g.m - 1) g.b 0 h h' (λ r l. begun (over x y) h (length h) (r * g.b) l ⊕ spans g s 0 x y r l)
  pub diagonals : Lined (g.m - 1) g.b 0 d d' (λ r l. begun (over x y) d ((g.m - 2) * g.b) (r * g.b) l ⊕ spans g s 1 x y r l)

pub record Summed (g : Grid) (s h h' d d' : List ℕ) : Type 0 where
  pub rows : Lined (g.m - 1) g.b 0 h h' (λ r l. line g.m (lane g.m g.b s l) 0 r g.k)
  pub diagonals : Lined (g.m - 1) g.b 0 d d' (λ r l. get_or d ((g.m - 2) * g.b + l) 0 ⊕ line g.m (lane g.m g.b s l) 1 r g.k)
