-- What the first two steps of a change leave.
--   DifferenceAdded g t i cell s v   s became v: the bytes of `cell` were added to the cell in row i of column t, so that it holds what it is to change by,
--                                    and that then to H's cell in row i; `between` is what s was between the two
use Rattle.std.specs.Prelude.{List, ℕ, ◌+◌, ◌*◌, get_or}
use Rattle.parity.specs.Xor.{◌⊕◌}
use Rattle.cells.specs.Runs.{Put}
use Rattle.lines.specs.declared.Grid.{Grid}

pub record DifferenceAdded (g : Grid) (t i : ℕ) (cell s v : List ℕ) : Type 0 where
  pub between : List ℕ
  pub first : Put s between (t * g.column + i * g.b) g.b (λ l. get_or s (t * g.column + i * g.b + l) 0 ⊕ get_or cell (0 + l) 0)
  pub second : Put between v (g.k * g.column + i * g.b) g.b (λ l. get_or between (g.k * g.column + i * g.b + l) 0 ⊕ get_or between (t * g.column + i * g.b + l) 0)
