-- `evenodd::shows::show` meets its contract: the part that is lent is the one where `place_of` says that the column lies.
use native.Mathlib.Omega.{arith}
use Rattle.std.specs.Prelude.{Ok}
use Rattle.evenodd.specs.declared.shows.Place.TheVariants.{InStripe, InBench}
use Rattle.evenodd.specs.Shows.{Places}
use Rattle.evenodd.proofs.Shown.{stripe_fits, bench_fits}
use Rattle.evenodd.proofs.shows.show.Goals as goal
use Rattle.evenodd.proofs.shows.show.Goals.{In-Ok-InStripe, In-Ok-InBench}

-- what the question answered, by the arm that was taken
in_stripe : (c : In-Ok-InStripe) → let a = c.args in
    Places a.shape.m a.shape.k a.shape.b a.map a.stripe.now a.bench.now a.column (Ok (InStripe c.in-Ok-InStripe.start c.in-Ok-InStripe.length))
in_stripe c = rw c.in-Ok-InStripe.field-0-is at c.in-Ok-InStripe.ensures

in_bench : (c : In-Ok-InBench) → let a = c.args in
    Places a.shape.m a.shape.k a.shape.b a.map a.stripe.now a.bench.now a.column (Ok (InBench c.in-Ok-InBench.start c.in-Ok-InBench.length))
in_bench c = rw c.in-Ok-InBench.field-0-is at c.in-Ok-InBench.ensures

pub overflow_add-result : goal.overflow_add-result
overflow_add-result c = omega (arith, stripe_fits (in_stripe c))

pub slice_bounds-result-end : goal.slice_bounds-result-end
slice_bounds-result-end c = stripe_fits (in_stripe c)

pub overflow_add-result-in-Ok-InBench : goal.overflow_add-result-in-Ok-InBench
overflow_add-result-in-Ok-InBench c = omega (arith, bench_fits (in_bench c))

pub slice_bounds-result-end-in-Ok-InBench : goal.slice_bounds-result-end-in-Ok-InBench
slice_bounds-result-end-in-Ok-InBench c = bench_fits (in_bench c)
