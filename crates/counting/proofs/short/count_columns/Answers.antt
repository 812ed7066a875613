-- `counting::short::count_columns` meets its contract: every cell starts with line m - 1, the lines are added, and what is not zero is counted.
use Prim.Native.Nat.{◌-◌}
use Rattle.lines.proofs.Rows.{lined_grown}
use Rattle.lines.proofs.Whole.{column_room}
use Rattle.counting.specs.Counting.{test_line}
use Rattle.counting.proofs.Found.{found_cong}
use Rattle.counting.proofs.Bands.{band_at}
use native.Mathlib.Omega.{arith}
use Rattle.counting.proofs.short.count_columns.Goals as goal

pub count_cells-requires : goal.count_cells-requires
count_cells-requires c =
    omega (arith, column_room c.requires.laid.sized c.requires.whole, c.add_lines.ensures.size, c.start_lines.ensures.size)

pub returns : goal.returns
returns c =
    let a = c.args in
    found_cong c.count_cells.ensures (band_at (lined_grown (a.g.m - 1) a.g.b 0 (λ r l. test_line a.g a.s.now a.u r l) c.start_lines.ensures c.add_lines.ensures))
