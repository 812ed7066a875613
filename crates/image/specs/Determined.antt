-- The format and the promises determine what is read. Each statement is a type, which proofs/Determined inhabits.
--   ImageOne         an image is that of one shape and one map
--   BodiesOne        and tells the bytes of every present column
--   ContentsTell     `contents` finds the shape and the map of every well-formed image; so whether three or more columns are absent is told by it
--   ContentsOne      two answers that meet the promise of `contents` are equal
--   ReadsOne         two answers and stripes that meet the promise of `read` are equal
use Rattle.std.specs.Prelude.{◌≡◌, Bool, List, ℕ, Result, Ok}
use Rattle.parity.specs.Shape.{Shape}
use Rattle.parity.specs.Presence.{absences, Agrees}
use Rattle.maps.specs.declared.Map.{Map}
use Rattle.refusals.specs.declared.Refusal.{Refusal}
use Rattle.image.specs.declared.answers.Contents.{Contents}
use Rattle.image.specs.Format.{WellFormed}
use Rattle.image.specs.Reads.{ContentsOf, ReadInto}

unfoldable pub ImageOne : Type 0
ImageOne = (image : List ℕ) (m k b n l d : ℕ) (map other : List Bool) → Shape m k b → Shape n l d
    → WellFormed m k b map image → WellFormed n l d other image → (m ≡ n) × (k ≡ l) × (b ≡ d) × (map ≡ other)

unfoldable pub BodiesOne : Type 0
BodiesOne = (image : List ℕ) (m k b : ℕ) (map : List Bool) → Shape m k b
    → (w z : WellFormed m k b map image) → Agrees m k b map w.stripe z.stripe

unfoldable pub ContentsTell : Type 0
ContentsTell = (image : List ℕ) (m k b : ℕ) (map : List Bool) (r : Result Contents Refusal) → Shape m k b → WellFormed m k b map image → ContentsOf image r
    → (found : Map) × (r ≡ Ok (record { shape = record { m = m; k = k; b = b }; map = found })) × (found.places ≡ map) × (absences k found.places ≡ absences k map)

unfoldable pub ContentsOne : Type 0
ContentsOne = (image : List ℕ) (r q : Result Contents Refusal) → ContentsOf image r → ContentsOf image q → r ≡ q

unfoldable pub ReadsOne : Type 0
ReadsOne = (image before x y : List ℕ) (r q : Result Contents Refusal) → ReadInto image before x r → ReadInto image before y q → (r ≡ q) × (x ≡ y)
