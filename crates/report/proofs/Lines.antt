-- The lines of the columns.
--   lines_none, lines_next   no column's line, and one more
use mathlib.Core.Path.{◌≡◌, refl}
use mathlib.Core.Bool.{Bool}
use mathlib.Core.List.{List, [], ◌++◌}
use Prim.Native.Nat.{ℕ, ◌+◌}
use native.Mathlib.Numerals.{add-one}
use Rattle.parity.specs.Presence.{present}
use Rattle.report.specs.Lines.{column_line, column_lines}

pub lines_none : (map : List Bool) (f : ℕ → List ℕ) → [] ≡ column_lines 0 map f
unfolding column_lines
lines_none map f = refl

pub lines_next : (n : ℕ) (map : List Bool) (f : ℕ → List ℕ) → column_lines n map f ++ column_line n (present map n) (f n) ≡ column_lines (n + 1) map f
unfolding column_lines
lines_next n map f = rw add-one
