-- `maps::Map::without` meets its contract: where the place was present, one less is, and where it was the highest, the next is found.
use native.Mathlib.Omega.{arith}
use Rattle.parity.specs.Presence.{present}
use Rattle.maps.proofs.Truth.{counted_cleared, highest_left}
use Rattle.maps.proofs.Presence.{marked_already, marked_cleared}
use Rattle.maps.proofs.Map.without.Goals as goal

pub returns-then-not-self-place : goal.returns-then-not-self-place
unfolding present
returns-then-not-self-place c = marked_already _ _ _ c.requires.0 c.if-not-self-place.true

pub overflow_sub-self : goal.overflow_sub-self
unfolding present
overflow_sub-self c =
    let (h, l) = c.requires in
    let one = counted_cleared c.args.self.places c.args.place (let w = h.whole in omega arith) c.if-not-self-place.false l in
    omega (arith, h.counted)

pub returns-then-self-place : goal.returns-then-self-place
unfolding present
returns-then-self-place c =
    let (h, l) = c.requires in
    marked_cleared _ _ h l c.if-not-self-place.false _ c.find_highest.ensures

pub returns-else-self-place : goal.returns-else-self-place
unfolding present
returns-else-self-place c =
    let (h, l) = c.requires in
    let there = c.if-not-self-place.false in
    marked_cleared _ _ h l there _ (highest_left _ _ (let w = h.whole in omega arith) there _ h.named c.if-self-place.false)
