-- The promise determines what is written. Each statement is a type, which proofs/Determined inhabits.
--   WritesOne      two answers and buffers that meet the promise of `write` are equal
--   ImageUnread    two stripes that agree in the present columns have the same image
--   WritesUnread   so what stands in an absent column's place alters neither the answer nor what is written
use Rattle.std.specs.Prelude.{◌≡◌, Bool, List, ℕ, length, Result}
use Rattle.parity.specs.Presence.{Agrees}
use Rattle.maps.specs.declared.Map.{Map}
use Rattle.refusals.specs.declared.Refusal.{Refusal}
use Rattle.image.specs.Format.{image_of}
use Rattle.image_writer.specs.Writes.{Writes}

unfoldable pub WritesOne : Type 0
WritesOne = (m k b : ℕ) (map : Map) (s before x y : List ℕ) (r q : Result ℕ Refusal) → Writes m k b map s before x r → Writes m k b map s before y q → (r ≡ q) × (x ≡ y)

unfoldable pub ImageUnread : Type 0
ImageUnread = (m k b : ℕ) (map : List Bool) (s z : List ℕ) → length z ≡ length s → Agrees m k b map s z → image_of m k b map s ≡ image_of m k b map z

unfoldable pub WritesUnread : Type 0
WritesUnread = (m k b : ℕ) (map : Map) (s z before after : List ℕ) (r : Result ℕ Refusal) → Writes m k b map s before after r → length z ≡ length s
    → Agrees m k b map.places s z → Writes m k b map z before after r
