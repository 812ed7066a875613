-- `maps::Map::strays` meets its contract: the true map of the same places tells it by its highest place.
use Rattle.maps.proofs.Truth.{from_highest}
use Rattle.maps.proofs.Map.strays.Goals as goal

pub returns : goal.returns
returns c =
    let made = c.of_places in
    let (there, back) = from_highest made.result made.ensures.truth _ in
    (λ e. rw made.ensures.same at (back (c.reaches.ensures.0 e)), λ p. c.reaches.ensures.1 (there (rw made.ensures.same p)))
