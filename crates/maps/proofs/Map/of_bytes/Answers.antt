-- `maps::Map::of_bytes` meets its contract. The loop's invariant: the places below t are those of the bytes.
use mathlib.Core.Path.{refl}
use Rattle.maps.proofs.Filling.{filled_none, filled_more, of_bytes_lem}
use borrow.Author.Rules.{rules}
use Rattle.maps.proofs.Map.of_bytes.Goals as goal

pub loop-t-init : goal.loop-t-init
loop-t-init c = (search rules, filled_none _ _ _ refl)

pub loop-t-preserved : goal.loop-t-preserved
loop-t-preserved c = (search rules, filled_more _ _ _ _ c.loop-t.invariant.1 (search rules))

pub returns : goal.returns
returns c = of_bytes_lem _ _ c.loop-t.t _ c.loop-t.invariant.1 (search rules) c.of_places.ensures
