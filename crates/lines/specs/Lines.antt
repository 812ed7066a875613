-- Lines of cells in a byte lane, as the loops go along them.
--   ahead m r n         r + n modulo m, the other way than `back`, which is r - n
--   real m a r t        the byte in row r of column t; row m - 1 is zero
--   line m a e i n      the sum of line i over the first n columns: with slant e = 0 it is row i, with e = 1 diagonal i
--   span m a e i x y    the same over the columns from x up to y: the sum over all below y without that over all below x
--   ended m a e i h n   line i over the first n columns with its end, the cell in row i of column h: H's cell ends a row, D's a diagonal
--   Sized m b c         the numbers of a shape, as far as loops need them, with c the bytes of a column
--   Laid g s            these numbers, with k, and s as long as a stripe
--   Crosses …           line i of slant e can be followed through the columns from x up to y of a stripe of n bytes
use Rattle.std.specs.Prelude.{◌≡◌, cond, List, ℕ, ◌+◌, ◌-◌, ◌*◌, ◌%◌, ◌≤◌, ◌<◌, ltb, length}
use Rattle.parity.specs.Xor.{◌⊕◌}
use Rattle.parity.specs.Sum.{sum}
use Rattle.parity.specs.Shape.{column_length}
use Rattle.parity.specs.Equations.{Lane, back}
use Rattle.lines.specs.declared.Grid.{Grid}

abbrev pub ahead : ℕ → ℕ → ℕ → ℕ
ahead m r n = (r + n) % m

unfoldable pub real : ℕ → Lane → ℕ → ℕ → ℕ
real m a r t = cond (ltb r (m - 1)) (a r t) 0

unfoldable pub line : ℕ → Lane → ℕ → ℕ → ℕ → ℕ
line m a e i n = sum n (λ t. real m a (back m i (e * t)) t)

unfoldable pub span : ℕ → Lane → ℕ → ℕ → ℕ → ℕ → ℕ
span m a e i x y = line m a e i x ⊕ line m a e i y

unfoldable pub ended : ℕ → Lane → ℕ → ℕ → ℕ → ℕ → ℕ
ended m a e i h n = real m a i h ⊕ span m a e i 0 n

pub record Sized (m b c : ℕ) : Type 0 where
  pub big : 1 < m
  pub few : m ≤ 127
  pub filled : 1 ≤ b
  pub short : b ≤ 4096
  pub column : c ≡ column_length m b

pub record Laid (g : Grid) (s : List ℕ) : Type 0 where
  pub sized : Sized g.m g.b g.column
  pub some : 1 ≤ g.k
  pub few : g.k ≤ g.m
  pub whole : length s ≡ (g.k + 2) * g.column

pub record Crosses (m c n e i x y : ℕ) : Type 0 where
  pub slant : e ≤ 1
  pub inside : i < m
  pub order : x ≤ y
  pub within : e * y ≤ m
  pub most : y ≤ 256
  pub columns : y * c ≤ n
