-- Each promise determines its result: two results that meet it are equal. Each statement is a type, which proofs/Determined inhabits.
-- Of a part that show hands out, the place and the bytes are determined: `SamePart`. The name under which the logic follows a reference is no part
-- of the answer.
--   EncodesOne, RestoresOne, RewritesOne, ChangesOne, ChangesAllOne, PlacesOne, ShowsOne    the promise of each call
--   RestoresUnread               what stands in an absent column's place alters neither restore's answer nor the bench
--   RewritesUnread               what stands in the column that is named alters neither rewrite's answer nor what it leaves
--   PlacesUnread, ShowsUnread    no byte of stripe or bench alters where a column is shown: their lengths alone are asked
use Rattle.std.specs.Prelude.{◌≡◌, List, ℕ, length, Result, Ok, Err, ⊤}
use Rattle.evenodd.specs.Encodes.{Encodes}
use Rattle.parity.specs.Presence.{Agrees, AgreesBut}
use Rattle.maps.specs.declared.Map.{Map}
use Rattle.maps.specs.declared.Gaps.{Gaps}
use Rattle.refusals.specs.declared.Refusal.{Refusal}
use Rattle.inputs.specs.declared.lists.ListRefusal.{ListRefusal}
use Rattle.evenodd.specs.Restores.{Restores}
use Rattle.evenodd.specs.Rewrites.{Rewrites}
use Rattle.evenodd.specs.Changes.{Changes}
use Rattle.evenodd.specs.ChangesAll.{ChangesAll}
use Rattle.std.specs.Borrow.{Bor}
use Rattle.evenodd.specs.declared.shows.Place.{Place}
use Rattle.evenodd.specs.Shows.{Places, Shows}

unfoldable pub EncodesOne : Type 0
EncodesOne = (m k b : ℕ) (s x y : List ℕ) (r q : Result ⊤ Refusal) → Encodes m k b s x r → Encodes m k b s y q → (r ≡ q) × (x ≡ y)

unfoldable pub RestoresOne : Type 0
RestoresOne = (m k b : ℕ) (map : Map) (s bench x y : List ℕ) (r q : Result Gaps Refusal)
    → Restores m k b map s bench x r → Restores m k b map s bench y q → (r ≡ q) × (x ≡ y)

unfoldable pub RestoresUnread : Type 0
RestoresUnread = (m k b : ℕ) (map : Map) (s other bench x : List ℕ) (r : Result Gaps Refusal)
    → Restores m k b map s bench x r → length other ≡ length s → Agrees m k b map.places s other → Restores m k b map other bench x r

unfoldable pub RewritesOne : Type 0
RewritesOne = (m k b column : ℕ) (s x y : List ℕ) (r q : Result ⊤ Refusal) → Rewrites m k b column s x r → Rewrites m k b column s y q → (r ≡ q) × (x ≡ y)

-- what is left of a stripe: x where it was rewritten, itself where that was refused
abbrev pub left_of : Result ⊤ Refusal → List ℕ → List ℕ → List ℕ
left_of (Ok _) x other = x
left_of (Err f) x other = other

unfoldable pub RewritesUnread : Type 0
RewritesUnread = (m k b column : ℕ) (s other x : List ℕ) (r : Result ⊤ Refusal) → Rewrites m k b column s x r → length other ≡ length s → AgreesBut m k b column s other
    → Rewrites m k b column other (left_of r x other) r

unfoldable pub ChangesOne : Type 0
ChangesOne = (m k b column row : ℕ) (cell s x y : List ℕ) (r q : Result ⊤ Refusal)
    → Changes m k b column row cell s x r → Changes m k b column row cell s y q → (r ≡ q) × (x ≡ y)

unfoldable pub ChangesAllOne : Type 0
ChangesAllOne = (m k b : ℕ) (columns rows cells s x y : List ℕ) (r q : Result ⊤ ListRefusal)
    → ChangesAll m k b columns rows cells s x r → ChangesAll m k b columns rows cells s y q → (r ≡ q) × (x ≡ y)

unfoldable pub PlacesOne : Type 0
PlacesOne = (m k b : ℕ) (map : Map) (s bench : List ℕ) (column : ℕ) (r q : Result Place Refusal)
    → Places m k b map s bench column r → Places m k b map s bench column q → r ≡ q

pub record SamePart (r q : Bor (List ℕ)) : Type 0 where
  pub block : r.ref_ptr.0 ≡ q.ref_ptr.0
  pub place : r.ref_ptr.1 ≡ q.ref_ptr.1
  pub bytes : r.now ≡ q.now

unfoldable pub ShowsOne : Type 0
ShowsOne = (m k b : ℕ) (map : Map) (s bench : Bor (List ℕ)) (column : ℕ) (r q : Bor (List ℕ))
    → Shows m k b map s bench column r → Shows m k b map s bench column q → SamePart r q

unfoldable pub PlacesUnread : Type 0
PlacesUnread = (m k b : ℕ) (map : Map) (s bench other spare : List ℕ) (column : ℕ) (r : Result Place Refusal)
    → Places m k b map s bench column r → length other ≡ length s → length spare ≡ length bench → Places m k b map other spare column r

unfoldable pub ShowsUnread : Type 0
ShowsUnread = (m k b : ℕ) (map : Map) (s bench other spare : Bor (List ℕ)) (column : ℕ) (r q : Bor (List ℕ))
    → (x : Shows m k b map s bench column r) (y : Shows m k b map other spare column q)
    → length other.now ≡ length s.now → length spare.now ≡ length bench.now → x.answer ≡ y.answer
