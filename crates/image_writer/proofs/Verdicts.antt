-- What the writer answers, by the way out.
--   Marked, marked_given      what is known where the numbers, the stripe's length and the map are right
--   marked_passed             and these pass then
--   marked_good, counted      and where the judgement says so; as many columns are present as the map counts
--   image_length              the length of an image
--   write_passes              where all this is so, and the buffer is long enough, the writer's rules pass
--   write_short, write_good   what `write` promises, by the way out
use mathlib.Core.Path.{◌≡◌, refl, sym, ap, ◌∙◌}
use mathlib.Core.Bool.{Bool}
use mathlib.Core.List.{List, [], ◌∷◌, ◌++◌}
use Prim.Native.Nat.{ℕ, ◌+◌, ◌*◌, ◌≤◌, ◌<◌}
use native.Mathlib.Omega.{arith}
use lib.ListN.{length, drop, take-append-drop}
use Rattle.parity.specs.Shape.{Shape, column_length, stripe_length}
use Rattle.parity.specs.Presence.{present}
use Rattle.std.specs.Prelude.{Ok, Err}
use Rattle.refusals.specs.declared.Refusal.TheVariants.{ShortBuffer}
use Rattle.refusals.specs.Refusals.{pass, Gives}
use Rattle.refusals.proofs.Rules.{gives_first, gives_next, gives_after, gives_passed, passed_first}
use Rattle.maps.specs.declared.Map.{Map}
use Rattle.maps.specs.Absent.{Stray}
use Rattle.maps.specs.Truth.{TrueMap}
use Rattle.maps.proofs.Present.{same_count}
use Rattle.maps.proofs.Truth.{not_lying}
use Rattle.inputs.specs.Rules.{stripe_rules, map_rules}
use Rattle.inputs.proofs.ShapeLaws.{places_most}
use Rattle.inputs.proofs.Stripe.{stripe_given, stripe_passed}
use Rattle.text.specs.Text.{Wrote}
use Rattle.image.specs.Format.{joined, bodies_at, present_below, image_of}
use Rattle.image.proofs.Laid.{image_laid}
use Rattle.image_writer.specs.Writes.{short_buffer, marked_rules, write_rules, Writes}
use Rattle.image_writer.specs.Pieces.{four_numbers, entry_of, body_of, JudgesMarked}
use Rattle.image_writer.proofs.Joining.{image_same}

pub image_length : (m k b : ℕ) (map : List Bool) (s : List ℕ) → length s ≡ stripe_length m k b → length (image_of m k b map s) ≡ bodies_at k + present_below (k + 2) map * column_length m b
image_length m k b map s whole = (image_laid m k b map s whole (image_of m k b map s) refl).size

module _ (m k b : ℕ) (map : Map) where
  -- what their rules ask of a stripe of n bytes
  pub record Marked (n : ℕ) : Type 0 where
    pub shape : Shape m k b
    pub stripe : n ≡ stripe_length m k b
    pub truth : TrueMap map
    pub clear : Stray k map.places → ⊥

  module _ (n : ℕ) where
    pub marked_given : Gives (marked_rules m k b map n) pass → Marked n
    marked_given g =
        let (first, second) = gives_passed (stripe_rules m k b n) (map_rules k map) g in
        let (shape, stripe) = stripe_given m k b n first in
        let (honest, last) = passed_first second in
        record { shape = shape; stripe = stripe; truth = not_lying map honest; clear = (passed_first last).0 }

    pub marked_passed : Marked n → Gives (marked_rules m k b map n) pass
    marked_passed g =
        gives_after (stripe_rules m k b n) (map_rules k map) pass (stripe_passed m k b n g.shape g.stripe) (gives_next (λ lies. lies g.truth) (gives_next g.clear refl))

    pub marked_good : {c : ℕ} → JudgesMarked m k b map n (Ok c) → Marked n × (c ≡ column_length m b)
    marked_good h = (marked_given h.told, h.column)

    pub counted : Marked n → map.present ≡ present_below (k + 2) map.places
    unfolding present_below
    counted g = g.truth.counted ∙ same_count (k + 2) map.places g.clear 129 (places_most g.shape)

  module _ (s before : List ℕ) where
    pub write_passes : Marked (length s) → length (image_of m k b map.places s) ≤ length before → Gives (write_rules m k b map s (length before)) pass
    write_passes g room =
        gives_after (marked_rules m k b map (length s)) (short_buffer (image_of m k b map.places s) (length before) ∷ []) pass (marked_passed (length s) g) (gives_next (λ short. omega arith) refl)

    module _ (g : Marked (length s)) {c : ℕ} (column : c ≡ column_length m b) where
      -- the length as it is reckoned
      reckoned : length (image_of m k b map.places s) ≡ bodies_at k + map.present * c
      reckoned = rw (counted (length s) g, column) (image_length m k b map.places s g.stripe)

      pub write_short : length before < bodies_at k + map.present * c → Writes m k b map s before before (Err ShortBuffer)
      write_short l = record {
        told = gives_after (marked_rules m k b map (length s)) (short_buffer (image_of m k b map.places s) (length before) ∷ []) _ (marked_passed (length s) g) (gives_first (omega (arith, reckoned)));
        left = refl;
      }

      pub write_good : (after : List ℕ) (n : ℕ) → bodies_at k + map.present * c ≤ length before
          → Wrote before after 0 n (four_numbers m k b 0 ++ (joined (k + 2) (λ t. entry_of t (present map.places t) (bodies_at k + present_below t map.places * c)) ++ joined (k + 2) (body_of map.places c s)))
          → Writes m k b map s before after (Ok n)
      write_good after n room w =
          let same : four_numbers m k b 0 ++ (joined (k + 2) (λ t. entry_of t (present map.places t) (bodies_at k + present_below t map.places * c)) ++ joined (k + 2) (body_of map.places c s)) ≡ image_of m k b map.places s =
          rw column (image_same m k b map.places s) in
          record {
            told = write_passes g (omega (arith, reckoned));
            left = (omega (arith, w.ends, ap length same), sym (take-append-drop n after) ∙ ap (λ x. x ++ drop n after) (w.text ∙ same) ∙ ap (λ x. image_of m k b map.places s ++ x) w.rest);
          }
