-- An image, piece by piece.
--   Laid                      what stands where in an image, and its length
--   bodies_none, bodies_more  how many bytes the bodies of no column have, and of one column more
--   body_length, body_byte    the bytes of a body
--   image_laid, laid_image    an image is laid out so, and what is laid out so is the image
use mathlib.Core.Path.{◌≡◌, refl, sym, ap, ◌∙◌}
use mathlib.Core.Bool.{Bool, true, false, cond}
use mathlib.Core.List.{List, []}
use Prim.Native.Nat.{ℕ, suc, ◌+◌, ◌*◌, ◌≤◌, ◌<◌}
use native.Mathlib.Nat.{suc-mul, zero-mul, add-zero}
use native.Mathlib.Omega.{arith}
use lib.ListN.{length, get_or, take, drop, length-append, length-drop}
use lib.Seq.{length-take-le, get_or-take, get_or-drop}
use Rattle.parity.specs.Sum.{count}
use Rattle.parity.specs.Shape.{column_length, stripe_length}
use Rattle.parity.specs.Presence.{present}
use Rattle.cells.proofs.Parts.{parts_end}
use Rattle.image.specs.Format.{le2, joined, bodies_at, present_below, entry, body, image_of}
use Rattle.image.specs.Entries.{entry_at}
use Rattle.image.proofs.Standing.{Stands, stands_here, stands_all, stands_both, stands_first, stands_second, stands_each, stands_piece, joined_length}

pub record Laid (m k b : ℕ) (map : List Bool) (s image : List ℕ) : Type 0 where
  pub size : length image ≡ bodies_at k + present_below (k + 2) map * column_length m b
  pub first : Stands image 0 (le2 m)
  pub second : Stands image 2 (le2 k)
  pub third : Stands image 4 (le2 b)
  pub fourth : Stands image 6 (le2 0)
  pub entries : (t : ℕ) → t < k + 2 → Stands image (entry_at t) (entry m k b map t)
  pub bodies : (t : ℕ) → t < k + 2 → Stands image (bodies_at k + present_below t map * column_length m b) (body m b map s t)

-- the bodies of the columns below t + 1
pub bodies_more : (map : List Bool) (c t : ℕ) → present_below (suc t) map * c ≡ present_below t map * c + cond (present map t) c 0
unfolding present_below count
bodies_more map c t = go (present map t)
  where
    go : (p : Bool) → cond p (suc (count t (present map))) (count t (present map)) * c ≡ count t (present map) * c + cond p c 0
    go true = suc-mul (count t (present map)) c
    go false = sym (add-zero _)

pub bodies_none : (map : List Bool) (c : ℕ) → present_below 0 map * c ≡ 0
unfolding present_below count
bodies_none map c = zero-mul c

-- the body of a present column is the column
pub body_byte : (m b : ℕ) (map : List Bool) (s : List ℕ) (t : ℕ) → present map t ≡ true → (j : ℕ) → j < column_length m b
    → get_or (body m b map s t) j 0 ≡ get_or s (t * column_length m b + j) 0
unfolding body
body_byte m b map s t e j l =
    rw e (get_or-take (column_length m b) (drop (t * column_length m b) s) j 0 l ∙ get_or-drop (t * column_length m b) s j 0)

module _ (m k b : ℕ) (map : List Bool) (s : List ℕ) (whole : length s ≡ stripe_length m k b) where
  -- how many bytes stand before entry t of the contents, and before the body of column t
  entry_at_lem : (t : ℕ) → length (joined t (entry m k b map)) ≡ 8 * t
  unfolding entry
  entry_at_lem t = joined_length (λ t. 8 * t) (entry m k b map) refl t (λ t l. omega arith)

  -- column t lies within the stripe
  pub body_length : (t : ℕ) → t < k + 2 → length (body m b map s t) ≡ cond (present map t) (column_length m b) 0
  unfolding body stripe_length
  body_length t l = go (present map t)
    where
      go : (p : Bool) → length (cond p (take (column_length m b) (drop (t * column_length m b) s)) []) ≡ cond p (column_length m b) 0
      go true = length-take-le (column_length m b) _ (let x = parts_end (column_length m b) l in simp length-drop (omega arith))
      go false = refl

  body_at_lem : (t : ℕ) → t ≤ k + 2 → length (joined t (body m b map s)) ≡ present_below t map * column_length m b
  body_at_lem t h =
      joined_length (λ t. present_below t map * column_length m b) (body m b map s) (bodies_none map (column_length m b)) t (λ t l.
      bodies_more map (column_length m b) t ∙ ap (λ x. present_below t map * column_length m b + x) (sym (body_length t (omega arith))))

  image_length : length (image_of m k b map s) ≡ bodies_at k + present_below (k + 2) map * column_length m b
  unfolding image_of
  image_length =
      let x = entry_at_lem (k + 2) in
      let y = body_at_lem (k + 2) (omega arith) in
      let z = length-append (joined (k + 2) (entry m k b map)) (joined (k + 2) (body m b map s)) in
      omega arith

  pub image_laid : (image : List ℕ) → image ≡ image_of m k b map s → Laid m k b map s image
  unfolding image_of
  image_laid image e =
      let s0 : Stands image 0 (image_of m k b map s) = rw e (stands_here (image_of m k b map s)) in
      let s2 = stands_second (le2 m) _ s0 in
      let s4 = stands_second (le2 k) _ s2 in
      let s6 = stands_second (le2 b) _ s4 in
      let s8 = stands_second (le2 0) _ s6 in
      record {
        size = ap length e ∙ image_length;
        first = stands_first (le2 m) _ s0;
        second = stands_first (le2 k) _ s2;
        third = stands_first (le2 b) _ s4;
        fourth = stands_first (le2 0) _ s6;
        entries = λ t l. rw (entry_at_lem t) at (stands_piece (entry m k b map) (k + 2) t l (stands_first (joined (k + 2) (entry m k b map)) _ s8));
        bodies = λ t l. rw (entry_at_lem (k + 2), body_at_lem t (omega arith)) at (stands_piece (body m b map s) (k + 2) t l (stands_second (joined (k + 2) (entry m k b map)) _ s8));
      }

  pub laid_image : (image : List ℕ) → Laid m k b map s image → image ≡ image_of m k b map s
  unfolding image_of
  laid_image image l =
      stands_all image (image_of m k b map s) (l.size ∙ sym image_length)
      (stands_both (le2 m) _ l.first (stands_both (le2 k) _ l.second (stands_both (le2 b) _ l.third (stands_both (le2 0) _ l.fourth
      (stands_both (joined (k + 2) (entry m k b map)) _
      (stands_each (entry m k b map) (k + 2) (λ t h. rw (entry_at_lem t) (l.entries t h)))
      (stands_each (body m b map s) (k + 2) (λ t h. rw (entry_at_lem (k + 2), body_at_lem t (omega arith)) (l.bodies t h))))))))
