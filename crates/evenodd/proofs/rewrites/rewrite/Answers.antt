-- `evenodd::rewrites::rewrite` meets its contract: a law of rewrite for each way out, from what the tests on the way there said.
use mathlib.Core.Path.{sym, ◌∙◌}
use mathlib.Core.Bool.{true≢false}
use lib.ListN.{length}
use native.Mathlib.Omega.{arith}
use Rattle.parity.specs.Stripe.{Stripe}
use Rattle.inputs.proofs.Tests.{Numbers, stripe_good}
use Rattle.lines.proofs.Whole.{laid}
use Rattle.evenodd.proofs.RewriteLaws.{rewrite_none, rewrite_done}
use Rattle.evenodd.proofs.rewrites.rewrite.Goals as goal
use Rattle.evenodd.proofs.rewrites.rewrite.Goals.{In_ok-length}

good : (c : In_ok-length) → Numbers c.args.shape.m c.args.shape.k c.args.shape.b (length c.args.stripe.now) c.in_ok-length.length
good c = stripe_good _ _ _ _ c.in_ok-length.ensures

-- a stripe, of the length that was tested
stripe : (c : In_ok-length) → Stripe c.args.shape.m c.args.shape.k c.args.shape.b c.args.stripe.now
stripe c = record { whole = (good c).stripe; bytes = λ x. omega (arith, c.type_inv.stripe x) }

pub fits_but-fits-requires : goal.fits_but-fits-requires
fits_but-fits-requires c = let n = good (goal.at.fits_but-fits-requires c).In_ok-length in laid n.shape n.column n.stripe

pub returns-then-not-fits : goal.returns-then-not-fits
returns-then-not-fits c =
    let p = (goal.at.returns-then-not-fits c).In_ok-length in
    let a = c.args in
    rewrite_none a.shape.m a.shape.k a.shape.b a.column (good p).shape a.stripe.now (stripe p) (omega (arith, c.if-k-column.false)) (λ f. true≢false (sym (c.fits_but-fits.ensures.1 f) ∙ c.if-not-fits.true))

pub rewrite-requires : goal.rewrite-requires
rewrite-requires c =
    let n = good (goal.at.rewrite-requires c).In_ok-length in
    (laid n.shape n.column n.stripe, omega (arith, c.if-k-column.false))

pub returns : goal.returns
returns c =
    let p = (goal.at.returns c).In_ok-length in
    let a = c.args in
    rewrite_done a.shape.m a.shape.k a.shape.b a.column (good p).shape a.stripe.now (stripe p) (omega (arith, c.if-k-column.false)) (c.fits_but-fits.ensures.0 c.if-not-fits.false) _ c.rewrite.ensures.becomes
