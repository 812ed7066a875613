-- `evenodd::one_cell::change` meets its contract: a law of change for each way out, from what the tests on the way there said.
use lib.ListN.{length}
use native.Mathlib.Omega.{arith}
use Rattle.inputs.proofs.Tests.{Numbers, stripe_good}
use Rattle.lines.proofs.Whole.{laid}
use Rattle.evenodd.proofs.one_cell.change.Goals as goal
use Rattle.evenodd.proofs.one_cell.change.Goals.{In_ok-length}

good : (c : In_ok-length) → Numbers c.args.shape.m c.args.shape.k c.args.shape.b (length c.args.stripe.now) c.in_ok-length.length
good c = stripe_good _ _ _ _ c.in_ok-length.ensures

pub change_cell-requires : goal.change_cell-requires
change_cell-requires c =
    let n = good (goal.at.change_cell-requires c).In_ok-length in
    (laid n.shape n.column n.stripe, omega (arith, c.if-k-column.false), omega (arith, c.if-m-row.false), c.if-cell-b.false)
