-- `checking::locates::locate` meets its contract: the tests, whether the stripe is blank, and what each suspect says of valid stripes.
use lib.ListN.{length}
use native.Mathlib.Omega.{arith}
use Rattle.parity.specs.Stripe.{Stripe}
use Rattle.inputs.proofs.Tests.{Numbers, stripe_good}
use Rattle.lines.proofs.Whole.{laid}
use Rattle.checking.proofs.Parity.{parity_inside}
use Rattle.checking.proofs.Zeros.{zeros_tell, no_zeros_tell}
use Rattle.checking.proofs.LocateLaws.{locate_blank, locate_intact, locate_column, locate_nobody}
use Rattle.checking.proofs.locates.locate.Goals as goal
use Rattle.checking.proofs.locates.locate.Goals.{In_ok-column}

good : (c : In_ok-column) → Numbers c.args.shape.m c.args.shape.k c.args.shape.b (length c.args.stripe.now) c.in_ok-column.column
good c = stripe_good _ _ _ _ c.in_ok-column.ensures

-- a stripe, of the length that was tested
stripe : (c : In_ok-column) → Stripe c.args.shape.m c.args.shape.k c.args.shape.b c.args.stripe.now
stripe c = record { whole = (good c).stripe; bytes = λ x. omega (arith, c.type_inv.stripe x) }

pub overflow_mul-k : goal.overflow_mul-k
overflow_mul-k c = let n = good c in omega (arith, (parity_inside n.shape n.column n.stripe).1)

pub is_blank-requires : goal.is_blank-requires
is_blank-requires c = let n = good (goal.at.is_blank-requires c).In_ok-column in (parity_inside n.shape n.column n.stripe).0

pub returns-then-is_blank : goal.returns-then-is_blank
returns-then-is_blank c =
    let p = (goal.at.returns-then-is_blank c).In_ok-column in
    let a = c.args in
    locate_blank a.shape.m a.shape.k a.shape.b (good p).shape a.stripe.now (stripe p) (zeros_tell a.shape.m a.shape.k a.shape.b a.stripe.now _ c.is_blank.ensures c.if-is_blank.true)

pub locate-requires : goal.locate-requires
locate-requires c =
    let n = good (goal.at.locate-requires c).In_ok-column in
    record { laid = laid n.shape n.column n.stripe; odd = n.shape.value.odd; prime = n.shape.value.prime }

pub returns-in-Nothing : goal.returns-in-Nothing
returns-in-Nothing c =
    let p = (goal.at.returns-in-Nothing c).In_ok-column in
    let a = c.args in
    locate_intact a.shape.m a.shape.k a.shape.b (good p).shape a.stripe.now (stripe p) c.in-Nothing.ensures
    (no_zeros_tell a.shape.m a.shape.k a.shape.b a.stripe.now _ c.is_blank.ensures (good p).shape (good p).stripe c.if-is_blank.false)

pub returns-in-Nobody : goal.returns-in-Nobody
returns-in-Nobody c =
    let p = (goal.at.returns-in-Nobody c).In_ok-column in
    let a = c.args in
    locate_nobody a.shape.m a.shape.k a.shape.b (good p).shape a.stripe.now (stripe p) c.in-Nobody.ensures.1

pub returns-in-Column : goal.returns-in-Column
returns-in-Column c =
    let p = (goal.at.returns-in-Column c).In_ok-column in
    let a = c.args in
    let found = c.in-Column.ensures in
    locate_column a.shape.m a.shape.k a.shape.b (good p).shape a.stripe.now (stripe p) _ found.0 found.1 found.2
