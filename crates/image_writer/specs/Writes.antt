-- What the writer of an image promises.
--   short_buffer image n   16: n bytes are fewer than the image has
--   marked_rules           1, 12, 13, 2, 17, 9: what a stripe of n bytes and a map are asked
--   write_rules            the refusals of `write`, in order: these, then 16
--   length_of r            the length of an answer: 0 where it is refused
--   Leaves                what becomes of the lent buffer
--   Writes                the lent buffer begins with the image of the present columns, whose length is answered, and what it had past that stays. Refused, no byte
--                         of it changes.
use Rattle.std.specs.Prelude.{◌≡◌, List, [], ◌∷◌, ◌++◌, ℕ, ◌<◌, length, drop, Result, Ok, Err}
use Rattle.maps.specs.declared.Map.{Map}
use Rattle.refusals.specs.declared.Refusal.{Refusal}
use Rattle.refusals.specs.declared.Refusal.TheVariants.{ShortBuffer}
use Rattle.refusals.specs.Refusals.{verdict_of, Rule, Gives}
use Rattle.inputs.specs.Rules.{stripe_rules, map_rules}
use Rattle.image.specs.Format.{image_of}

abbrev pub short_buffer : List ℕ → ℕ → Rule
short_buffer image n = record { condition = n < length image; refusal = ShortBuffer }

abbrev pub marked_rules : ℕ → ℕ → ℕ → Map → ℕ → List Rule
marked_rules m k b map n = stripe_rules m k b n ++ map_rules k map

abbrev pub write_rules : ℕ → ℕ → ℕ → Map → List ℕ → ℕ → List Rule
write_rules m k b map s n = marked_rules m k b map (length s) ++ (short_buffer (image_of m k b map.places s) n ∷ [])

abbrev pub length_of : Result ℕ Refusal → ℕ
length_of (Ok n) = n
length_of (Err f) = 0

abbrev pub Leaves : List ℕ → List ℕ → List ℕ → Result ℕ Refusal → Type 0
Leaves image before after (Ok n) = (n ≡ length image) × (after ≡ image ++ drop n before)
Leaves image before after (Err f) = after ≡ before

pub record Writes (m k b : ℕ) (map : Map) (s before after : List ℕ) (r : Result ℕ Refusal) : Type 0 where
  pub told : Gives (write_rules m k b map s (length before)) (verdict_of r)
  pub left : Leaves (image_of m k b map.places s) before after r
