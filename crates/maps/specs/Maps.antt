-- The presence map: 129 places, place 0 first, how many are present, and the highest present one. Every call that makes a map but `of_parts` makes a true
-- one, save that a mark hands a map that lies back as it is; and what is asked of a map is answered by its places alone, whatever its two numbers are.
--   New r                       every place is absent
--   OfPlaces places r           the map has those places
--   OfBytes bytes r             place t is present exactly when byte t is 1
--   AsBytes map bytes           byte t is 1 where place t is present, otherwise 0
--   TellsTruth map r            whether the map's two numbers are what its places say
--   MarkedAs state before place after   that place is in the state, and every other place as before
--   Marks                       passed by `place_rules`: `MarkedAs`; refused, the map is as it was
--   JudgesPlace map place r     the verdict of `place_rules`
--   FindsGaps map n r           the absent places below n, of the 129: how many, and the two lowest of them, 129 standing for none
--   FindsStrays map n r         whether a place at or above n is present
use Rattle.std.specs.Prelude.{◌≡◌, Bool, true, false, cond, ◌↔◌, List, ℕ, ◌≤◌, ◌<◌, eqb, length, get_or, Result, ⊤}
use Rattle.parity.specs.Presence.{present}
use Rattle.maps.specs.declared.Gaps.{Gaps}
use Rattle.maps.specs.Absent.{PresentFrom, Counts}
use Rattle.maps.specs.declared.Map.{Map}
use Rattle.refusals.specs.declared.Refusal.{Refusal}
use Rattle.refusals.specs.Refusals.{pass, refuse, verdict_of, Gives}
use Rattle.maps.specs.Rules.{place_rules}
use Rattle.maps.specs.Truth.{TrueMap}

pub record New (r : Map) : Type 0 where
  pub absent : (t : ℕ) → present r.places t ≡ false
  pub truth : TrueMap r

pub record OfPlaces (places : List Bool) (r : Map) : Type 0 where
  pub same : r.places ≡ places
  pub truth : TrueMap r

pub record OfBytes (bytes : List ℕ) (r : Map) : Type 0 where
  pub at : (t : ℕ) → t < 129 → present r.places t ≡ eqb (get_or bytes t 0) 1
  pub truth : TrueMap r

pub record AsBytes (map : Map) (bytes : List ℕ) : Type 0 where
  pub whole : length bytes ≡ 129
  pub at : (t : ℕ) → t < 129 → get_or bytes t 0 ≡ cond (present map.places t) 1 0

abbrev pub TellsTruth : Map → Bool → Type 0
TellsTruth map r = (r ≡ true) ↔ TrueMap map

pub record MarkedAs (state : Bool) (before : Map) (place : ℕ) (after : Map) : Type 0 where
  pub at : (t : ℕ) → present after.places t ≡ cond (eqb t place) state (present before.places t)
  pub truth : TrueMap after

pub record Marks (state : Bool) (before : Map) (place : ℕ) (after : Map) : Type 0 where
  pub done : Gives (place_rules before place) pass → MarkedAs state before place after
  pub kept : (f : Refusal) → Gives (place_rules before place) (refuse f) → after ≡ before

pub record JudgesPlace (map : Map) (place : ℕ) (r : Result ⊤ Refusal) : Type 0 where
  pub told : Gives (place_rules map place) (verdict_of r)

pub record FindsGaps (map : Map) (n : ℕ) (r : Gaps) : Type 0 where
  pub some : n ≤ 129 → Counts n map.places r
  pub all : 129 < n → Counts 129 map.places r

abbrev pub FindsStrays : Map → ℕ → Bool → Type 0
FindsStrays map n r = (r ≡ true) ↔ PresentFrom n map.places
