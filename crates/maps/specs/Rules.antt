-- The rules of refusal that a map alone is asked, and their order when a place is marked.
--   lying_map map        17: the map's two numbers are not what its places say
--   no_such_place place   7: the map has no place of that number
--   place_rules          17, 7: marking a place
use Rattle.std.specs.Prelude.{List, [], ◌∷◌, ℕ, ◌≤◌}
use Rattle.maps.specs.declared.Map.{Map}
use Rattle.refusals.specs.declared.Refusal.TheVariants as refusal
use Rattle.refusals.specs.Refusals.{Rule}
use Rattle.maps.specs.Truth.{TrueMap}

abbrev pub lying_map : Map → Rule
lying_map map = record { condition = TrueMap map → ⊥; refusal = refusal.LyingMap }

abbrev pub no_such_place : ℕ → Rule
no_such_place place = record { condition = 129 ≤ place; refusal = refusal.NoSuchColumn }

abbrev pub place_rules : Map → ℕ → List Rule
place_rules map place = lying_map map ∷ no_such_place place ∷ []
