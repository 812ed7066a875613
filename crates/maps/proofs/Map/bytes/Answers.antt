-- `maps::Map::bytes` meets its contract. The loop's invariant: the bytes below t are those of the places.
use mathlib.Core.Path.{refl}
use Rattle.parity.specs.Presence.{present}
use Rattle.maps.proofs.Filling.{filled_none, filled_more, as_bytes}
use borrow.Author.Rules.{rules}
use Rattle.maps.proofs.Map.bytes.Goals as goal

pub loop-t-init : goal.loop-t-init
loop-t-init c = (search rules, filled_none _ _ _ refl)

pub loop-t-preserved : goal.loop-t-preserved
unfolding present
loop-t-preserved c = (search rules, filled_more _ _ _ _ c.loop-t.invariant.1 (search rules))

pub returns : goal.returns
returns c = as_bytes _ _ c.loop-t.t c.loop-t.invariant.1 (search rules)
