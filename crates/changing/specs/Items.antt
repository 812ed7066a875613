-- What lists of cells that are changed must be.
--   ItemsFit g columns rows cells   at most 256 items, each with its row and the bytes of a cell; and every one names a cell of the data
use Rattle.std.specs.Prelude.{◌≡◌, List, ℕ, ◌-◌, ◌*◌, ◌≤◌, ◌<◌, length, get_or}
use Rattle.lines.specs.declared.Grid.{Grid}

pub record ItemsFit (g : Grid) (columns rows cells : List ℕ) : Type 0 where
  pub few : length columns ≤ 256
  pub even : length rows ≡ length columns
  pub full : length cells ≡ length columns * g.b
  pub inside : (n : ℕ) → n < length columns → (get_or columns n 0 < g.k) × (get_or rows n 0 < g.m - 1)
