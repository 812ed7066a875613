-- `maps::Map::new` meets its contract: the array is 129 times absent.
use Rattle.maps.proofs.Presence.{new_absent, new_true}
use Rattle.maps.proofs.Map.new.Goals as goal

pub returns : goal.returns
returns c = record { absent = new_absent 129; truth = new_true }
