-- Each promise determines its result: two results that meet it are equal. Each statement is a type, which proofs/Determined inhabits.
-- What `of_parts` and `is_present` promise is an equation, so there is nothing to say of them.
--   NewOne, OfPlacesOne, OfBytesOne, AsBytesOne, TellsTruthOne, MarksOne, JudgesPlaceOne, FindsGapsOne, FindsStraysOne   the promise of each call
--   MarkedTwice    marking twice equals marking once, of a map that lies too
--   TrueMapOne     the places determine a true map
--   ByHighest      of a true map, a place from n on is present exactly when the highest place is one: so 9 is read from the highest place
--   ByCount        of a true map without strays, as many columns are absent as the count leaves of k + 2: so 4 is read from the count
use Rattle.std.specs.Prelude.{◌≡◌, ◌↔◌, Bool, List, ℕ, ◌+◌, ◌≤◌, Result, ⊤}
use Rattle.parity.specs.Presence.{absences}
use Rattle.maps.specs.declared.Gaps.{Gaps}
use Rattle.maps.specs.declared.Map.{Map}
use Rattle.refusals.specs.declared.Refusal.{Refusal}
use Rattle.maps.specs.Absent.{PresentFrom, Stray}
use Rattle.maps.specs.Truth.{TrueMap, HighestFrom, absent_by_count}
use Rattle.maps.specs.Maps.{New, OfPlaces, OfBytes, AsBytes, TellsTruth, Marks, JudgesPlace, FindsGaps, FindsStrays}

unfoldable pub NewOne : Type 0
NewOne = (r q : Map) → New r → New q → r ≡ q

unfoldable pub OfPlacesOne : Type 0
OfPlacesOne = (places : List Bool) (r q : Map) → OfPlaces places r → OfPlaces places q → r ≡ q

unfoldable pub OfBytesOne : Type 0
OfBytesOne = (bytes : List ℕ) (r q : Map) → OfBytes bytes r → OfBytes bytes q → r ≡ q

unfoldable pub AsBytesOne : Type 0
AsBytesOne = (map : Map) (x y : List ℕ) → AsBytes map x → AsBytes map y → x ≡ y

unfoldable pub TellsTruthOne : Type 0
TellsTruthOne = (map : Map) (r q : Bool) → TellsTruth map r → TellsTruth map q → r ≡ q

unfoldable pub MarksOne : Type 0
MarksOne = (state : Bool) (before : Map) (place : ℕ) (r q : Map) → Marks state before place r → Marks state before place q → r ≡ q

unfoldable pub MarkedTwice : Type 0
MarkedTwice = (state : Bool) (before : Map) (place : ℕ) (once twice : Map) → Marks state before place once → Marks state once place twice → twice ≡ once

unfoldable pub JudgesPlaceOne : Type 0
JudgesPlaceOne = (map : Map) (place : ℕ) (r q : Result ⊤ Refusal) → JudgesPlace map place r → JudgesPlace map place q → r ≡ q

unfoldable pub FindsGapsOne : Type 0
FindsGapsOne = (map : Map) (n : ℕ) (r q : Gaps) → FindsGaps map n r → FindsGaps map n q → r ≡ q

unfoldable pub FindsStraysOne : Type 0
FindsStraysOne = (map : Map) (n : ℕ) (r q : Bool) → FindsStrays map n r → FindsStrays map n q → r ≡ q

unfoldable pub TrueMapOne : Type 0
TrueMapOne = (x y : Map) → TrueMap x → TrueMap y → x.places ≡ y.places → x ≡ y

unfoldable pub ByHighest : Type 0
ByHighest = (n : ℕ) (map : Map) → TrueMap map → PresentFrom n map.places ↔ HighestFrom n map

unfoldable pub ByCount : Type 0
ByCount = (k : ℕ) (map : Map) → TrueMap map → (Stray k map.places → ⊥) → (map.present ≤ k + 2) × (absences k map.places ≡ absent_by_count k map)
