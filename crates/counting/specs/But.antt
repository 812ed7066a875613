-- The lines that tell whether the columns other than u fit a valid stripe. None of them looks at column u.
--   line_but m k a u d        for u up to k diagonal d with D's cell, for larger u row d with H's cell. On a diagonal the cell of a data
--                            column u is what its row asks for: the rest of that row, H included. Equation d holds where line d and
--                            line m - 1 are the same: diagonal m - 1 is S, and row m - 1 is zero
--   window_but m k a u d x y  its cells in the data columns from x up to y, and where these are the first also those in H and D
use Rattle.std.specs.Prelude.{cond, ℕ, ltb}
use Rattle.parity.specs.Xor.{◌⊕◌}
use Rattle.parity.specs.Equations.{Lane, back}
use Rattle.lines.specs.Places.{without, window}

unfoldable pub window_but : ℕ → ℕ → Lane → ℕ → ℕ → ℕ → ℕ → ℕ
window_but m k a u d x y = cond (ltb k u) (window m k (without u u a) 0 d x y) (window m k (without u u a) 1 d x y ⊕ cond (ltb u k) (window m k (without u u a) 0 (back m d u) x y) 0)

abbrev pub line_but : ℕ → ℕ → Lane → ℕ → ℕ → ℕ
line_but m k a u d = window_but m k a u d 0 k
