-- `maps::Map::of_places` meets its contract: the two numbers are what the places say.
use Rattle.maps.proofs.Truth.{true_parts}
use Rattle.maps.proofs.Map.of_places.Goals as goal

pub returns : goal.returns
returns c =
    true_parts _ _ _ _ c.well_formed.0.1.0.1 c.count_present-present.ensures c.find_highest-highest.ensures c.of_parts.ensures
