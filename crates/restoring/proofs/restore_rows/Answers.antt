-- `restoring::restore_rows` meets its contract: the rows give a data column or H, and a column past H is D, which the diagonals give.
use Rattle.restoring.proofs.Steps.{by_rows, by_diagonals}
use native.Mathlib.Omega.{arith}
use Rattle.restoring.proofs.restore_rows.Goals as goal

pub returns-then-u-g : goal.returns-then-u-g
returns-then-u-g c =
    let a = c.args in
    by_rows a.g a.s.now a.w.now c.requires.2.laid a.u a.first a.n c.requires.1 c.if-u-g.true c.put_rows.ensures

pub returns-else-u-g : goal.returns-else-u-g
returns-else-u-g c =
    let a = c.args in
    by_diagonals a.g a.s.now a.w.now c.requires.2.laid a.u a.first a.n c.requires.1 (omega (arith, c.requires.0, c.if-u-g.false)) c.put_diagonals.ensures
