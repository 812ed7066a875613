-- What becomes of the cells of a buffer w that sums of cells and lines of a stripe s are set in.
--   filled w seed s at l     lane l of the cell of w at `seed`, plus that of the cells of s at the places `at`; from the end of w on its bytes are zero
--   Filling …                the cell at `to`, its seed, and the cells at those places are all there
--   begun columns w seed to l   what lane l of the cell at `to` begins with: its seed's where the columns are the first, else its own
--   window_of, span_of         line i over those columns, with its end where they are the first, and without: at lane l
--   cell_of                   what line i has in column t, nothing if that is left out
--   Lining, OneLine          a line over at most eight columns, and over any number from 0 on, and the cell that it is summed in
--   Turning                  a column that can be added to a column of n bytes, turned so that cell r gets what line r + shift has there
--   Half                     lines that can be followed through those columns, one for each cell of a column of n bytes
--   RoomForCells g p n seed  of p bytes the first n cells, and what each begins with: the cell at `seed`, which is not before the last of them. Short cells
--                            are a column, and begin with its last cell
--   SomeColumns, AllColumns  lines that can be followed through those data columns, at most eight, and any number from 0 on
use Rattle.std.specs.Prelude.{◌≡◌, cond, List, ℕ, ◌+◌, ◌*◌, ◌-◌, ◌≤◌, ◌<◌, eqb, length, get_or}
use Rattle.parity.specs.Xor.{◌⊕◌}
use Rattle.parity.specs.Equations.{Lane, back}
use Rattle.parity.specs.Stripe.{lane}
use Rattle.lines.specs.declared.Columns.{Columns}
use Rattle.lines.specs.declared.Grid.{Grid}
use Rattle.lines.specs.Lines.{real, span, Sized, Laid, Crosses}
use Rattle.lines.specs.Places.{without, window, total, Within}
use Rattle.lines.specs.Rows.{Room}

abbrev pub filled : List ℕ → ℕ → List ℕ → List ℕ → ℕ → ℕ
filled w seed s at l = get_or w (seed + l) 0 ⊕ total at (length at) s l

pub record Filling (w s : List ℕ) (b : ℕ) (at : List ℕ) (seed to : ℕ) : Type 0 where
  pub room : Room (length w) b seed to
  pub within : Within at (length at) b (length s)

unfoldable pub begun : Columns → List ℕ → ℕ → ℕ → ℕ → ℕ
begun columns w seed to l = get_or w (cond (eqb columns.from 0) seed to + l) 0

-- what the sums see of lane l: nothing in the columns that are left out
abbrev pub lane_of : Grid → List ℕ → Columns → ℕ → Lane
lane_of g s columns l = without columns.u columns.v (lane g.m g.b s l)

abbrev pub window_of : Grid → List ℕ → ℕ → ℕ → Columns → ℕ → ℕ
window_of g s e i columns l = window g.m g.k (lane_of g s columns l) e i columns.from columns.to

abbrev pub span_of : Grid → List ℕ → ℕ → ℕ → Columns → ℕ → ℕ
span_of g s e i columns l = span g.m (lane_of g s columns l) e i columns.from columns.to

abbrev pub cell_of : Grid → List ℕ → Columns → ℕ → ℕ → ℕ → ℕ → ℕ
cell_of g s columns e i t l = real g.m (lane_of g s columns l) (back g.m i (e * t)) t

pub record Lining (g : Grid) (s : List ℕ) (n e i : ℕ) (columns : Columns) (seed to : ℕ) : Type 0 where
  pub laid : Laid g s
  pub slant : e ≤ 1
  pub inside : i < g.m
  pub order : columns.from ≤ columns.to
  pub most : columns.to ≤ g.k
  pub group : columns.to ≤ columns.from + 8
  pub room : Room n g.b seed to

pub record OneLine (g : Grid) (s : List ℕ) (n e i : ℕ) (columns : Columns) (seed to : ℕ) : Type 0 where
  pub laid : Laid g s
  pub slant : e ≤ 1
  pub inside : i < g.m
  pub first : columns.from ≡ 0
  pub some : 1 ≤ columns.to
  pub most : columns.to ≤ g.k
  pub room : Room n g.b seed to

pub record Turning (g : Grid) (s : List ℕ) (n e d t : ℕ) : Type 0 where
  pub sized : Sized g.m g.b g.column
  pub whole : n ≡ g.column
  pub column : t * g.column + g.column ≤ length s
  pub slant : e ≤ 1
  pub reached : e * t < g.m
  pub shift : d < g.m

pub record Half (g : Grid) (s : List ℕ) (n e d : ℕ) (columns : Columns) : Type 0 where
  pub sized : Sized g.m g.b g.column
  pub whole : n ≡ g.column
  pub shift : d < g.m
  pub crosses : Crosses g.m g.column (length s) e 0 columns.from columns.to

pub record RoomForCells (g : Grid) (p n seed : ℕ) : Type 0 where
  pub before : n * g.b ≤ seed + g.b
  pub room : seed + g.b ≤ p
  pub short : g.b < 128 → (n ≡ g.m - 1) × (seed ≡ (g.m - 2) * g.b) × (p ≡ g.column)

pub record SomeColumns (g : Grid) (s : List ℕ) (e d : ℕ) (columns : Columns) : Type 0 where
  pub laid : Laid g s
  pub slant : e ≤ 1
  pub shift : d < g.m
  pub order : columns.from ≤ columns.to
  pub most : columns.to ≤ g.k
  pub group : columns.to ≤ columns.from + 8

pub record AllColumns (g : Grid) (s : List ℕ) (e d : ℕ) (columns : Columns) : Type 0 where
  pub laid : Laid g s
  pub slant : e ≤ 1
  pub shift : d < g.m
  pub first : columns.from ≡ 0
  pub some : 1 ≤ columns.to
  pub most : columns.to ≤ g.k
