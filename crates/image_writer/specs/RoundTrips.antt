-- The writer and the reader together, from their promises alone, for every shape and map. Each statement is a type, which proofs/RoundTrips inhabits.
--   WrittenReads   reading what was written gives back the shape, the map and every present column; the stripe's other columns stay as they were
--   ReadWrites     writing what was read gives the same bytes
use Rattle.std.specs.Prelude.{◌≡◌, false, List, ℕ, ◌+◌, ◌≤◌, ◌<◌, length, take, Result, Ok}
use Rattle.parity.specs.Shape.{stripe_length}
use Rattle.parity.specs.Stripe.{Stripe}
use Rattle.parity.specs.Presence.{present, differs, Agrees}
use Rattle.maps.specs.declared.Map.{Map}
use Rattle.refusals.specs.declared.Refusal.{Refusal}
use Rattle.image.specs.declared.answers.Contents.{Contents}
use Rattle.image.specs.Reads.{ReadInto}
use Rattle.image_writer.specs.Writes.{Writes}

unfoldable pub WrittenReads : Type 0
WrittenReads = (m k b n : ℕ) (map : Map) (s before after blank filled : List ℕ) (r : Result Contents Refusal) → Stripe m k b s → Writes m k b map s before after (Ok n)
    → length blank ≡ stripe_length m k b → ReadInto (take n after) blank filled r
    → (r ≡ Ok (record { shape = record { m = m; k = k; b = b }; map = map })) × Agrees m k b map.places s filled
    × ((t : ℕ) → t < k + 2 → present map.places t ≡ false → differs m b blank filled t ≡ false)

unfoldable pub ReadWrites : Type 0
ReadWrites = (image blank filled before after : List ℕ) (r : Contents) (w : Result ℕ Refusal) → ReadInto image blank filled (Ok r)
    → length image ≤ length before → Writes r.shape.m r.shape.k r.shape.b r.map filled before after w
    → (w ≡ Ok (length image)) × (take (length image) after ≡ image)
