-- The two numbers that a map keeps beside its places. Where a map is made of parts they can be anything, and then it may lie.
--   Highest places h     h is the highest place that is present; 129 where none is
--   TrueMap map          of the 129 places so many are present as the map counts, and the highest is the one that it names
--   HighestFrom n map    the highest place that the map names is n or above; 129 names none
--   absent_by_count k map  how many of k + 2 columns are absent, if so many places are present as the map counts, and no other
use Rattle.std.specs.Prelude.{◌≡◌, ◌≢◌, Bool, true, false, List, ℕ, ◌+◌, ◌-◌, ◌≤◌, ◌<◌, length}
use Rattle.parity.specs.Sum.{count}
use Rattle.parity.specs.Presence.{present}
use Rattle.maps.specs.declared.Map.{Map}

pub record Highest (places : List Bool) (h : ℕ) : Type 0 where
  pub there : h ≢ 129 → present places h ≡ true
  pub above : h ≢ 129 → (t : ℕ) → h < t → present places t ≡ false
  pub none : h ≡ 129 → (t : ℕ) → present places t ≡ false

pub record TrueMap (map : Map) : Type 0 where
  pub whole : length map.places ≡ 129
  pub counted : map.present ≡ count 129 (present map.places)
  pub named : Highest map.places map.highest

abbrev pub HighestFrom : ℕ → Map → Type 0
HighestFrom n map = (map.highest ≢ 129) × (n ≤ map.highest)

abbrev pub absent_by_count : ℕ → Map → ℕ
absent_by_count k map = k + 2 - map.present
