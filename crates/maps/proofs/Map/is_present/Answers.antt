-- `maps::Map::is_present` meets its contract: past the map's 129 places nothing is present.
use mathlib.Core.Path.{refl, sym}
use native.Mathlib.Omega.{arith}
use Rattle.parity.specs.Presence.{present}
use Rattle.maps.proofs.Absent.{past_all}
use Rattle.maps.proofs.Presence.{whole}
use Rattle.maps.proofs.Map.is_present.Goals as goal

pub returns-then-place-ge129 : goal.returns-then-place-ge129
returns-then-place-ge129 c = let map = c.args.self in sym (past_all map.places c.args.place (let w = whole map c.well_formed.0 in omega arith))

pub returns : goal.returns
unfolding present
returns c = refl
