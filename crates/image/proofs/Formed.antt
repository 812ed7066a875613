-- Whether an image is well formed, told by its numbers.
--   Right m k b image      the four numbers at the start, each entry and the length are as they must be. No map stands in it: the image says which columns are present.
--   formed_right           a well-formed image is right
--   formed_says            and its map is what it says
--   right_formed           a right image is well formed, with the map that it says
--   formed_body, formed_bodies    where the body of a present column is found, within the image
use mathlib.Core.Path.{◌≡◌, refl, sym, ap, ◌∙◌}
use mathlib.Core.Bool.{Bool, true, false, cond}
use mathlib.Core.List.{List}
use Prim.Native.Nat.{ℕ, ◌+◌, ◌*◌, ◌/◌, ◌%◌, ◌≤◌, ◌<◌}
use native.Mathlib.Nat.{mod-lt, div-add-mod'}
use native.Mathlib.Omega.{arith}
use lib.ListN.{length, get_or}
use borrow.Author.Tests.{eq-eqb, ne_eqb}
use Rattle.parity.specs.Sum.{count}
use Rattle.parity.specs.Shape.{Shape, column_length}
use Rattle.parity.specs.Stripe.{Stripe}
use Rattle.parity.specs.Presence.{present}
use Rattle.parity.proofs.Bytes.{byte_at, row_at, build, build_byte, build_stripe}
use Rattle.parity.proofs.Count.{count_cong, count_most, count_under}
use Rattle.cells.proofs.Parts.{parts_end}
use Rattle.inputs.proofs.ShapeLaws.{places_most, parts_most}
use Rattle.image.specs.Format.{bodies_at, present_below, offset, entry, body, WellFormed}
use Rattle.image.specs.Reads.{number2}
use Rattle.image.specs.Entries.{entry_at, says_present, offset_at, Entry, body_at, RightEntries, Bodies}
use Rattle.image.proofs.Standing.{Stands}
use Rattle.image.proofs.Laid.{Laid, body_length, body_byte, image_laid, laid_image}
use Rattle.image.proofs.Digits.{Bytes, short_told, short_stands, entry_told, entry_stands}

pub record Right (m k b : ℕ) (image : List ℕ) : Type 0 where
  pub first : number2 image 0 ≡ m
  pub second : number2 image 2 ≡ k
  pub third : number2 image 4 ≡ b
  pub fourth : number2 image 6 ≡ 0
  pub entries : RightEntries image (bodies_at k) (column_length m b) (k + 2)
  pub size : length image ≡ body_at image (bodies_at k) (column_length m b) (k + 2)

-- an entry's state byte says its state
state_says : {image : List ℕ} {t o : ℕ} (p : Bool) → Entry image t (cond p 1 0) o → says_present image t ≡ p
unfolding says_present
state_says {image} {t} true e = eq-eqb (get_or image (entry_at t + 2) 0) 1 e.marked
state_says {image} {t} false e = ne_eqb (get_or image (entry_at t + 2) 0) 1 (λ q. omega arith)

-- the map and the image say the same of the columns below n
module _ (m k b : ℕ) (map : List Bool) (image : List ℕ) (n : ℕ) (same : (t : ℕ) → t < n → present map t ≡ says_present image t) where
  below_says : (t : ℕ) → t ≤ n → bodies_at k + present_below t map * column_length m b ≡ body_at image (bodies_at k) (column_length m b) t
  unfolding present_below body_at
  below_says t h = ap (λ x. bodies_at k + x * column_length m b) (count_cong t (λ u l. same u (omega arith)))

  offset_says : (t : ℕ) → t < n → offset m k b map t ≡ cond (says_present image t) (body_at image (bodies_at k) (column_length m b) t) 0
  unfolding offset
  offset_says t h = rw (same t h, below_says t (omega arith))

module _ {m k b : ℕ} (shape : Shape m k b) where
  -- two bytes hold each number of a shape, and four hold each offset
  small : (m < 65536) × (k < 65536) × (b < 65536)
  small = let x = shape.value.most in let y = shape.few in let z = shape.short in (omega arith, omega arith, omega arith)

  offset_lt : (map : List Bool) (t : ℕ) → t < k + 2 → offset m k b map t < 4294967296
  unfolding offset present_below
  offset_lt map t h = go (present map t)
    where
      go : (p : Bool) → cond p (bodies_at k + count t (present map) * column_length m b) 0 < 4294967296
      go true = omega (arith, places_most shape, count_most t (present map), parts_most shape refl (count t (present map)) (let x = places_most shape in let y = count_most t (present map) in omega arith))
      go false = omega arith

  module _ (map : List Bool) (image : List ℕ) where
    formed_laid : (w : WellFormed m k b map image) → Laid m k b map w.stripe image
    formed_laid w = image_laid m k b map w.stripe w.sized.whole image w.same

    formed_entry : WellFormed m k b map image → (t : ℕ) → t < k + 2 → Entry image t (cond (present map t) 1 0) (offset m k b map t)
    unfolding entry
    formed_entry w t h =
        entry_told image t (cond (present map t) 1 0) (offset m k b map t) (let x = places_most shape in omega arith) (offset_lt map t h) ((formed_laid w).entries t h)

    pub formed_says : WellFormed m k b map image → (t : ℕ) → t < k + 2 → present map t ≡ says_present image t
    formed_says w t h = sym (state_says (present map t) (formed_entry w t h))

    pub formed_right : WellFormed m k b map image → Right m k b image
    formed_right w =
        let l = formed_laid w in
        let same = formed_says w in
        record {
          first = short_told small.0 l.first;
          second = short_told small.1 l.second;
          third = short_told small.2 l.third;
          fourth = short_told (omega arith) l.fourth;
          entries = record { at = λ t h. rw (same t h, offset_says m k b map image (k + 2) same t h) at (formed_entry w t h) };
          size = l.size ∙ below_says m k b map image (k + 2) same (k + 2) (omega arith);
        }

    -- where the contents say that the body of a present column begins
    formed_offset : WellFormed m k b map image → (t : ℕ) → t < k + 2 → present map t ≡ true → offset_at image t ≡ bodies_at k + present_below t map * column_length m b
    unfolding offset
    formed_offset w t h e = rw e at (formed_entry w t h).begins

    pub formed_body : (w : WellFormed m k b map image) → (t : ℕ) → t < k + 2 → present map t ≡ true → (j : ℕ) → j < column_length m b
        → get_or image (offset_at image t + j) 0 ≡ get_or w.stripe (t * column_length m b + j) 0
    formed_body w t h e j l =
        let n = body_length m k b map w.stripe w.sized.whole t h ∙ ap (λ p. cond p (column_length m b) 0) e in
        ap (λ x. get_or image (x + j) 0) (formed_offset w t h e) ∙ ((formed_laid w).bodies t h).at j (rw n l) ∙ body_byte m b map w.stripe t e j l

    pub formed_bodies : WellFormed m k b map image → Bodies image map (column_length m b) (k + 2)
    unfolding present_below
    formed_bodies w =
        let size = (formed_laid w).size in
        record {
          entries = omega arith;
          ends = λ t h e. rw (formed_offset w t h e) (let x = parts_end (column_length m b) (count_under (k + 2) (present map) t e h) in omega arith);
        }

  module _ (image : List ℕ) (bytes : Bytes image) where
    -- the stripe whose columns are the bodies, and anything where a column is absent
    found : List ℕ
    found = build m k b (λ l i t. get_or image (body_at image (bodies_at k) (column_length m b) t + (i * b + l)) 0)

    found_byte : (t : ℕ) → t < k + 2 → (j : ℕ) → j < column_length m b
        → get_or image (body_at image (bodies_at k) (column_length m b) t + j) 0 ≡ get_or found (t * column_length m b + j) 0
    unfolding found
    found_byte t h j l =
        ap (λ x. get_or image (body_at image (bodies_at k) (column_length m b) t + x) 0) (sym (div-add-mod' j b))
        ∙ sym (build_byte m k b _ (j % b) (j / b) t (mod-lt j shape.filled) (row_at m b shape.filled j l) h)
        ∙ byte_at m b found j t

    found_stripe : Stripe m k b found
    unfolding found
    found_stripe = build_stripe m k b _ (λ l i t. bytes _)

    module _ (map : List Bool) (marked : (t : ℕ) → t < k + 2 → present map t ≡ says_present image t) where
      found_body : (t : ℕ) → t < k + 2 → Stands image (bodies_at k + present_below t map * column_length m b) (body m b map found t)
      found_body t h = record { at = at (present map t) refl (body_length m k b map found found_stripe.whole t h) }
        where
          at : (p : Bool) → present map t ≡ p → length (body m b map found t) ≡ cond (present map t) (column_length m b) 0
              → (j : ℕ) → j < length (body m b map found t) → get_or image (bodies_at k + present_below t map * column_length m b + j) 0 ≡ get_or (body m b map found t) j 0
          at true e n j l =
              let r : j < column_length m b = rw (n, e) at l in
              ap (λ x. get_or image (x + j) 0) (below_says m k b map image (k + 2) marked t (omega arith)) ∙ found_byte t h j r ∙ sym (body_byte m b map found t e j r)
          at false e n j l = absurd (let r : j < 0 = rw (n, e) at l in omega arith)

      pub right_formed : ((t : ℕ) → k + 2 ≤ t → present map t ≡ false) → length map ≡ 129 → Right m k b image → WellFormed m k b map image
      unfolding entry
      right_formed clear whole r = record {
        stripe = found;
        sized = found_stripe;
        same = laid_image m k b map found found_stripe.whole image (record {
          size = r.size ∙ sym (below_says m k b map image (k + 2) marked (k + 2) (omega arith));
          first = short_stands image bytes small.0 r.first;
          second = short_stands image bytes small.1 r.second;
          third = short_stands image bytes small.2 r.third;
          fourth = short_stands image bytes (omega arith) r.fourth;
          entries = λ t h. entry_stands image bytes t (cond (present map t) 1 0) (offset m k b map t) (let x = places_most shape in omega arith)
              (rw (marked t h, offset_says m k b map image (k + 2) marked t h) (r.entries.at t h));
          bodies = found_body;
        });
        whole = whole;
        clear = clear;
      }
