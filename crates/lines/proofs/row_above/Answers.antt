-- `lines::row_above` meets its contract: a row that is less than `steps` wraps around, others do not.
use Rattle.lines.proofs.Lines.{up_around, up_straight}
use native.Mathlib.Omega.{arith}
use Rattle.lines.proofs.row_above.Goals as goal

pub returns-then-r-steps : goal.returns-then-r-steps
returns-then-r-steps c =
    up_around c.args.m c.args.steps c.args.r c.if-r-steps.true (omega arith)

pub returns : goal.returns
returns c =
    up_straight c.args.m c.args.steps c.args.r c.if-r-steps.false (omega arith)
