-- `evenodd::restores::restore` meets its contract: a law of restore for each way out, from what the tests on the way there said.
use mathlib.Core.Path.{subst}
use lib.ListN.{length}
use native.Mathlib.Omega.{arith}
use Rattle.parity.specs.Stripe.{Stripe}
use Rattle.inputs.proofs.Tests.{FewAbsent, gaps_good}
use Rattle.evenodd.specs.Fills.{FillsGaps}
use Rattle.evenodd.proofs.RestoreLaws.{restore_gapped, restore_filled, restore_contradicted}
use Rattle.evenodd.proofs.restores.restore.Goals as goal
use Rattle.evenodd.proofs.restores.restore.Goals.{In_ok-column}

good : (c : In_ok-column) → let a = c.args in FewAbsent a.shape.m a.shape.k a.shape.b (length a.stripe.now) a.map (length a.bench.now) c.in_ok-column.column c.in_ok-column.gaps
good c = gaps_good _ _ _ _ _ _ c.in_ok-column.ensures

-- a stripe, of the length that was tested
stripe : (c : In_ok-column) → Stripe c.args.shape.m c.args.shape.k c.args.shape.b c.args.stripe.now
stripe c = record { whole = (good c).lent.numbers.stripe; bytes = λ x. omega (arith, c.type_inv.stripe x) }

pub fill_gaps-requires : goal.fill_gaps-requires
fill_gaps-requires c =
    let a = c.args in
    restore_gapped a.shape.m a.shape.k a.shape.b a.map a.stripe.now a.bench.now (good (goal.at.fill_gaps-requires c).In_ok-column)

pub returns-then-not-fill_gaps : goal.returns-then-not-fill_gaps
returns-then-not-fill_gaps c =
    let p = (goal.at.returns-then-not-fill_gaps c).In_ok-column in
    let a = c.args in
    let after = c.fill_gaps.new.bench in
    restore_contradicted a.shape.m a.shape.k a.shape.b a.map a.stripe.now a.bench.now (good p) (stripe p) after
    (subst (FillsGaps a.shape.m a.shape.k a.shape.b c.in_ok-column.gaps a.stripe.now a.bench.now after) c.if-not-fill_gaps.true c.fill_gaps.ensures)

pub returns : goal.returns
returns c =
    let p = (goal.at.returns c).In_ok-column in
    let a = c.args in
    let after = c.fill_gaps.new.bench in
    restore_filled a.shape.m a.shape.k a.shape.b a.map a.stripe.now a.bench.now (good p) (stripe p) after
    (subst (FillsGaps a.shape.m a.shape.k a.shape.b c.in_ok-column.gaps a.stripe.now a.bench.now after) c.if-not-fill_gaps.false c.fill_gaps.ensures)
