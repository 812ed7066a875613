-- `sums::repeat_last` meets its contract: all but the last cell are cleared, and the last is spread.
use Prim.Native.Nat.{◌*◌, ◌-◌}
use Rattle.cells.proofs.Puts.{put_cleared, put_count}
use Rattle.lines.proofs.Turned.{last_cell}
use Rattle.sums.proofs.Sweeps.{repeated}
use native.Mathlib.Omega.{arith}
use Rattle.sums.proofs.repeat_last.Goals as goal

pub slice_bounds-zero-end : goal.slice_bounds-zero-end
slice_bounds-zero-end c = omega (arith, last_cell c.requires.1 0, c.requires.0)

pub returns : goal.returns
returns c =
    let a = c.args in
    let e = last_cell c.requires.1 0 in
    repeated c.requires.1 a.half.now _ c.spread.new.w
    (put_count (put_cleared a.half.now c.zero.new.acc 0 ((a.g.m - 2) * a.g.b) (omega arith) (omega (arith, c.requires.0)) c.zero.ensures) (omega arith))
    c.spread.ensures
