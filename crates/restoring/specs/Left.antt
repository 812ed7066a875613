-- What the functions on the way say to one another.
--   row_left g u v s i l        byte l of row i of s with H's cell, without columns u and v
--   diagonal_left g u v s i l   byte l of diagonal i of s with D's cell, without columns u and v
--   Summing, BothSummed        both halves of w became those of v by lines over some columns: where these are the first each cell begins with
--                              row m - 2 of its half, which is the last, else with what it holds
--   BothLeft g u v d s w v     the first half of v is what is left of the rows of s, the second what is left of its diagonals, each plus the last cell
--                              of that half of w: row r has diagonal r + d modulo m
--   Totalling, CellsTotalled   cells of b bytes, one after another in p bytes, and the cell of n bytes that they are summed in
use Rattle.std.specs.Prelude.{◌≡◌, cond, List, ℕ, ◌+◌, ◌-◌, ◌*◌, ◌%◌, ◌≤◌, ◌<◌, eqb}
use Rattle.parity.specs.Xor.{◌⊕◌}
use Rattle.parity.specs.Stripe.{lane}
use Rattle.lines.specs.declared.Columns.{Columns}
use Rattle.lines.specs.declared.Grid.{Grid}
use Rattle.lines.specs.Lines.{ended, Laid}
use Rattle.lines.specs.Places.{without}
use Rattle.lines.specs.Rows.{Room}
use Rattle.sums.specs.Sums.{window_of}
use Rattle.walk.specs.Walk.{Parted}

abbrev pub row_left : Grid → ℕ → ℕ → List ℕ → ℕ → ℕ → ℕ
row_left g u v s i l = ended g.m (without u v (lane g.m g.b s l)) 0 i g.k g.k

abbrev pub diagonal_left : Grid → ℕ → ℕ → List ℕ → ℕ → ℕ → ℕ
diagonal_left g u v s i l = ended g.m (without u v (lane g.m g.b s l)) 1 i (g.k + 1) g.k

pub record Summing (g : Grid) (s : List ℕ) (n d : ℕ) (columns : Columns) : Type 0 where
  pub laid : Laid g s
  pub bench : n ≡ 2 * g.column
  pub shift : d < g.m
  pub order : columns.from ≤ columns.to
  pub most : columns.to ≤ g.k
  pub group : columns.to ≤ columns.from + 8

-- the row that row r of a half begins with
unfoldable pub begin_row : Grid → Columns → ℕ → ℕ
begin_row g columns r = cond (eqb columns.from 0) (g.m - 2) r

abbrev pub BothSummed : Grid → List ℕ → ℕ → Columns → List ℕ → List ℕ → Type 0
BothSummed g s d columns w v = Parted g.m g.b v
    (λ r l. lane g.m g.b w l (begin_row g columns r) 0 ⊕ window_of g s 0 r columns l)
    (λ r l. lane g.m g.b w l (begin_row g columns r) 1 ⊕ window_of g s 1 ((r + d) % g.m) columns l)

abbrev pub BothLeft : Grid → ℕ → ℕ → ℕ → List ℕ → List ℕ → List ℕ → Type 0
BothLeft g u v d s w w' = Parted g.m g.b w' (row_left g u v s) (λ r l. lane g.m g.b w l (g.m - 2) 1 ⊕ diagonal_left g u v s ((r + d) % g.m) l)

pub record Totalling (n p b seed x y to : ℕ) : Type 0 where
  pub filled : 1 ≤ b
  pub short : b ≤ 4096
  pub order : x ≤ y
  pub group : y ≤ x + 8
  pub most : y ≤ 256
  pub cells : y * b ≤ p
  pub room : Room n b seed to

pub record CellsTotalled (n p b x to : ℕ) : Type 0 where
  pub filled : 1 ≤ b
  pub short : b ≤ 4096
  pub some : 0 < x
  pub most : x ≤ 256
  pub cells : x * b ≤ p
  pub room : to + b ≤ n
