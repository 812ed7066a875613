-- `evenodd::encodes::encode` meets its contract: the tests, and the stripe that the loops below leave.
use mathlib.Core.Path.{sym, ◌∙◌}
use native.Mathlib.Omega.{arith}
use lib.ListN.{length}
use Rattle.parity.proofs.Columns.{column_same}
use Rattle.lines.proofs.Cells.{cell_kept}
use Rattle.inputs.proofs.Tests.{Numbers, stripe_good}
use Rattle.lines.proofs.Whole.{laid}
use Rattle.evenodd.proofs.encodes.encode.Goals as goal
use Rattle.evenodd.proofs.encodes.encode.Goals.{In_ok-column}

good : (c : In_ok-column) → Numbers c.args.shape.m c.args.shape.k c.args.shape.b (length c.args.stripe.now) c.in_ok-column.column
good c = stripe_good _ _ _ _ c.in_ok-column.ensures

pub put_parity-requires : goal.put_parity-requires
put_parity-requires c = let n = good (goal.at.put_parity-requires c).In_ok-column in laid n.shape n.column n.stripe

pub returns : goal.returns
returns c =
    let n = good (goal.at.returns c).In_ok-column in
    let a = c.args in
    let r = c.put_parity.ensures in
    let after = c.put_parity.new.s in
    record {
      told = c.in_ok-column.ensures.told;
      written = (
        record {
          stripe = record { whole = r.size ∙ n.stripe; bytes = λ x. omega (arith, c.type_inv.stripe x) };
          lanes = r.holds;
        },
        λ t ht. column_same a.shape.m a.shape.b a.stripe.now after t (λ l i hl hi. sym (cell_kept a.shape.m a.shape.b a.shape.k a.stripe.now after r.kept l i t hl hi ht)),
      );
    }
