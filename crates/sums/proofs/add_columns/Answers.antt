-- `sums::add_columns` meets its contract. The invariant: the columns before t are added.
use Rattle.sums.proofs.Sweeps.{swept_none, swept_more}
use native.Mathlib.Omega.{arith}
use Rattle.sums.proofs.add_columns.Goals as goal

pub loop-t-init : goal.loop-t-init
loop-t-init c =
    let a = c.args in
    (omega arith, c.requires.crosses.order, swept_none a.g a.s.now a.slant a.shift a.columns a.half.now a.columns.from)

pub loop-t-preserved : goal.loop-t-preserved
loop-t-preserved c =
    let a = c.args in
    let y = c.loop-t in
    let f = c.add_column in
    (omega arith, omega arith, swept_more a.g a.s.now a.slant a.shift a.columns a.half.now y.half f.new.half a.columns.from y.t y.invariant.2 f.ensures)
