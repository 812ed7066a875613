-- What the readers answer, by the way out.
--   Header                   the image is long enough for its first numbers, the fourth is zero, and the others are m, k and b
--   after_header             the header is passed, and the other rules give the verdict
--   contents_ill             the image is not well formed
--   contents_good            what is answered for a well-formed image
--   formed_header, formed_passes    a well-formed image has its header, and is not refused
--   ill_short, ill_entry, ill_length    why an image is not well formed
use mathlib.Core.Path.{◌≡◌, refl, sym, ap, ◌∙◌}
use mathlib.Core.Logic.{◌≢◌, ◌⊎◌, inl, inr}
use mathlib.Core.Bool.{Bool}
use mathlib.Core.List.{List, [], ◌∷◌, ◌++◌}
use Prim.Native.Nat.{ℕ, ◌+◌, ◌≤◌, ◌<◌}
use native.Mathlib.Omega.{arith}
use lib.ListN.{length}
use Rattle.parity.specs.Shape.{Shape, column_length}
use Rattle.std.specs.Prelude.{Ok, Err}
use Rattle.refusals.specs.declared.Refusal.TheVariants.{Malformed}
use Rattle.refusals.specs.Refusals.{Verdict, pass, Gives}
use Rattle.inputs.specs.Rules.{shape_rules}
use Rattle.maps.specs.declared.Map.{Map}
use Rattle.maps.specs.Maps.{OfPlaces}
use Rattle.refusals.proofs.Rules.{gives_first, gives_next}
use Rattle.inputs.proofs.ShapeLaws.{after_shape}
use Rattle.image.specs.declared.table.Table.{Table}
use Rattle.image.specs.Format.{bodies_at, WellFormed}
use Rattle.image.specs.Reads.{number2, malformed, contents_rules, ContentsOf}
use Rattle.image.specs.Entries.{body_at, RightEntries, Reached}
use Rattle.image.proofs.Digits.{Bytes}
use Rattle.image.proofs.Formed.{formed_right, right_formed}

pub record Header (image : List ℕ) (m k b : ℕ) : Type 0 where
  pub long : 8 ≤ length image
  pub first : m ≡ number2 image 0
  pub second : k ≡ number2 image 2
  pub third : b ≡ number2 image 4
  pub fourth : number2 image 6 ≡ 0

module _ {image : List ℕ} {m k b : ℕ} (h : Header image m k b) where
  pub after_header : {v : Verdict} → Gives (shape_rules m k b ++ (malformed m k b image ∷ [])) v → Gives (contents_rules image) v
  after_header g = gives_next begun (rw (h.first, h.second, h.third) at g)
    where
      begun : (length image < 8) ⊎ (number2 image 6 ≢ 0) → ⊥
      begun (inl l) = omega (arith, h.long)
      begun (inr f) = f h.fourth

  module _ (shape : Shape m k b) where
    pub contents_ill : (malformed m k b image).condition → ContentsOf image (Err Malformed)
    contents_ill ill = record { told = after_header (after_shape m k b (malformed m k b image ∷ []) _ shape (gives_first ill)); says = tt }

    pub formed_passes : (map : List Bool) → WellFormed m k b map image → Gives (contents_rules image) pass
    formed_passes map w = after_header (after_shape m k b (malformed m k b image ∷ []) _ shape (gives_next (λ ill. ill map w) refl))

    pub ill_short : length image < bodies_at k → (malformed m k b image).condition
    unfolding body_at
    ill_short l map w = let r = formed_right shape map image w in let e = r.size in omega arith

    module _ {c : ℕ} (q : c ≡ column_length m b) where
      pub ill_entry : (RightEntries image (bodies_at k) c (k + 2) → ⊥) → (malformed m k b image).condition
      ill_entry wrong map f = wrong (rw q (formed_right shape map image f).entries)

      module _ {w : Table} (r : Reached image (bodies_at k) c (k + 2) w) where
        pub ill_length : w.next ≢ length image → (malformed m k b image).condition
        ill_length n map f = n (r.next ∙ rw q (sym (formed_right shape map image f).size))

        pub contents_good : Bytes image → w.next ≡ length image
            → {map : Map} → OfPlaces w.places map → ContentsOf image (Ok (record { shape = record { m = m; k = k; b = b }; map = map }))
        contents_good bytes n made =
            let formed = right_formed shape image bytes w.places r.below r.clear r.whole (record {
              first = sym h.first;
              second = sym h.second;
              third = sym h.third;
              fourth = h.fourth;
              entries = rw q at r.entries;
              size = sym n ∙ r.next ∙ ap (λ x. body_at image (bodies_at k) x (k + 2)) q;
            }) in
            record {
              told = formed_passes w.places formed;
              says = record { own = record { first = h.first; second = h.second; third = h.third }; formed = rw made.same formed; truth = made.truth };
            }

pub formed_header : {image : List ℕ} {m k b : ℕ} {map : List Bool} → Shape m k b → WellFormed m k b map image → Header image m k b
unfolding body_at
formed_header {image} {map = map} shape w =
    let r = formed_right shape map image w in
    let size = r.size in
    record { long = omega arith; first = sym r.first; second = sym r.second; third = sym r.third; fourth = r.fourth }
