-- `maps::Map::mark_present` meets its contract: what is judged of the place decides.
use Rattle.refusals.specs.Refusals.{pass, Gives}
use Rattle.maps.specs.Rules.{place_rules}
use Rattle.maps.proofs.Presence.{place_passed, marks_passed, marks_refused}
use Rattle.maps.proofs.Map.mark_present.Goals as goal

passes : (c : goal.In-Ok) → let a = c.args in Gives (place_rules a.self a.place) pass
passes c = c.in-Ok.ensures.told

pub with-requires : goal.with-requires
with-requires c = place_passed _ _ (passes c)

pub returns-in-Ok : goal.returns-in-Ok
returns-in-Ok c = marks_passed _ _ _ _ (passes c.before) c.with.ensures

pub returns-in-Err : goal.returns-in-Err
returns-in-Err c = marks_refused _ _ _ _ c.in-Err.ensures.told
