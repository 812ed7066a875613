-- `counting::count_lines` meets its contract: a column of short cells has room in 16,384 bytes.
use Rattle.lines.proofs.Whole.{short_column}
use native.Mathlib.Omega.{arith}
use Rattle.counting.proofs.count_lines.Goals as goal

pub count_with-requires : goal.count_with-requires
count_with-requires c =
    (omega arith, omega arith, short_column c.requires.sized c.if-g-ge128.false, omega (arith, c.requires.few, c.requires.sized.few), c.requires)
