-- `maps::find_gaps` meets its contract. The loop's invariant: the gaps are those below t.
use mathlib.Core.Path.{◌≡◌, refl}
use native.Mathlib.Omega.{arith}
use borrow.Author.Rules.{rules}
use Rattle.parity.specs.Presence.{present}
use Rattle.maps.proofs.Absent.{below_most, counts_none}
use Rattle.maps.proofs.find_gaps.Goals as goal

pub loop-t-init : goal.loop-t-init
loop-t-init c = (search rules, counts_none _)

pub counted-gaps-requires : goal.counted-gaps-requires
counted-gaps-requires c =
    omega (arith, c.loop-t.invariant.1.count, below_most c.args.places c.loop-t.t)

pub loop-t-preserved : goal.loop-t-preserved
unfolding present
loop-t-preserved c = (search rules, c.counted-gaps.ensures c.args.places c.loop-t.invariant.1 refl)

pub returns : goal.returns
returns c = let e : c.loop-t.t ≡ c.args.n = omega arith in rw e at c.loop-t.invariant.1
