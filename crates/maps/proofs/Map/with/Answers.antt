-- `maps::Map::with` meets its contract: where the place was absent, one more is present, and it may come to be the highest.
use native.Mathlib.Omega.{arith}
use Rattle.parity.specs.Presence.{present}
use Rattle.parity.proofs.Count.{count_most}
use Rattle.maps.proofs.Presence.{marked_already, marked_put}
use Rattle.maps.proofs.Map.with.Goals as goal

pub returns-then-self-place : goal.returns-then-self-place
unfolding present
returns-then-self-place c = marked_already _ _ _ c.requires.0 c.if-self-place.true

pub overflow_add-self : goal.overflow_add-self
overflow_add-self c = omega (arith, c.requires.0.counted, count_most 129 (present c.args.self.places))

pub returns : goal.returns
unfolding present
returns c =
    let (h, l) = c.requires in
    marked_put _ _ h l c.if-self-place.false _ (c.higher.ensures _ h.named (let w = h.whole in omega arith) l)
