-- `evenodd::fill_gaps` meets its contract: by how many columns are absent, what was tested and what was restored.
use Rattle.walk.proofs.Callers.{reaches}
use Rattle.lines.proofs.Whole.{laid}
use Rattle.evenodd.proofs.Laid.{laid_bench}
use native.Mathlib.Omega.{arith}
use Rattle.evenodd.proofs.restores.fill_gaps.Goals as goal

pub restore_two-requires : goal.restore_two-requires
restore_two-requires c =
    let p = c.requires in
    let (order, top) = p.two c.if-count-eq2.true in
    (laid_bench (laid p.shape p.column p.stripe) p.column p.held, p.shape.value.odd, order, top, λ l. reaches p.shape.value.prime (omega arith) (omega (arith, p.shape.few)))

pub fits_but-requires : goal.fits_but-requires
fits_but-requires c =
    let p = c.requires in
    laid p.shape p.column p.stripe

pub restore_one-requires : goal.restore_one-requires
restore_one-requires c =
    let p = c.requires in
    let z = laid p.shape p.column p.stripe in
    (z, omega (arith, (laid_bench z p.column p.held).bench), p.one c.if-count-eq1.true)
