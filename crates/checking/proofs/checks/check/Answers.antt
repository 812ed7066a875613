-- `checking::checks::check` meets its contract: the tests, whether the stripe is blank, and the counts of the loops below.
use lib.ListN.{length}
use native.Mathlib.Omega.{arith}
use Rattle.inputs.proofs.Tests.{Numbers, stripe_good}
use Rattle.lines.proofs.Whole.{laid}
use Rattle.checking.proofs.Parity.{parity_inside}
use Rattle.checking.proofs.Zeros.{zeros_tell, no_zeros_tell}
use Rattle.checking.proofs.CheckLaws.{blank_checks, says_checks}
use Rattle.checking.proofs.checks.check.Goals as goal
use Rattle.checking.proofs.checks.check.Goals.{In_ok-column}

good : (c : In_ok-column) → Numbers c.args.shape.m c.args.shape.k c.args.shape.b (length c.args.stripe.now) c.in_ok-column.column
good c = stripe_good _ _ _ _ c.in_ok-column.ensures

pub overflow_mul-k : goal.overflow_mul-k
overflow_mul-k c = let n = good c in omega (arith, (parity_inside n.shape n.column n.stripe).1)

pub is_blank-requires : goal.is_blank-requires
is_blank-requires c = let n = good (goal.at.is_blank-requires c).In_ok-column in (parity_inside n.shape n.column n.stripe).0

pub returns-then-is_blank : goal.returns-then-is_blank
returns-then-is_blank c =
    let a = c.args in
    blank_checks a.shape.m a.shape.k a.shape.b a.stripe.now c.in_ok-column.ensures.told (zeros_tell a.shape.m a.shape.k a.shape.b a.stripe.now _ c.is_blank.ensures c.if-is_blank.true)

pub count_broken-requires : goal.count_broken-requires
count_broken-requires c = let n = good (goal.at.count_broken-requires c).In_ok-column in laid n.shape n.column n.stripe

pub returns : goal.returns
returns c =
    let n = good (goal.at.returns c).In_ok-column in
    let a = c.args in
    let r = c.count_broken.ensures in
    says_checks a.shape.m a.shape.k a.shape.b a.stripe.now c.in_ok-column.ensures.told (no_zeros_tell a.shape.m a.shape.k a.shape.b a.stripe.now _ c.is_blank.ensures n.shape n.stripe c.if-is_blank.false) c.count_broken.result r.0 r.1 c.told.result c.told.ensures
