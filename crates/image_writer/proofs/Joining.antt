-- The pieces of an image, joined.
--   begins, entries           where the body of column t begins, and the entries of the columns below n
--   entries_length            each entry has eight bytes
--   body_of_length, bodies_length    a body has a column's bytes or none, and so many have those before a column
--   body_fits                 the body of a present column ends before those of all columns do
--   begins_next               where the next body begins
--   joined_same               the same pieces, the same list
--   image_same                the pieces as the code writes them are those of the image
use mathlib.Core.Path.{◌≡◌, refl, sym, ap, ap₂, ◌∙◌}
use mathlib.Core.Bool.{Bool, true, false, cond}
use mathlib.Core.List.{List, [], ◌∷◌, ◌++◌}
use Prim.Native.Nat.{ℕ, zero, suc, ◌+◌, ◌*◌, ◌≤◌, ◌<◌}
use native.Mathlib.Nat.{le_step, lt-suc_self}
use native.Mathlib.Numerals.{add-one}
use native.Mathlib.Omega.{arith}
use lib.ListN.{length, take, drop, length-drop}
use lib.Seq.{length-take-le}
use Rattle.parity.specs.Shape.{column_length}
use Rattle.parity.specs.Presence.{present}
use Rattle.parity.proofs.Count.{count_under}
use Rattle.cells.proofs.Parts.{parts_end}
use Rattle.image.specs.Format.{le2, le4, joined, bodies_at, present_below, offset, entry, body, image_of}
use Rattle.image.proofs.Standing.{joined_length}
use Rattle.image.proofs.Laid.{bodies_none, bodies_more}
use Rattle.image_writer.specs.Pieces.{four_numbers, entry_of, body_of}

abbrev pub begins : List Bool → ℕ → ℕ → ℕ → ℕ
begins map column bodies t = bodies + present_below t map * column

abbrev pub entries : List Bool → ℕ → ℕ → ℕ → List ℕ
entries map column bodies n = joined n (λ t. entry_of t (present map t) (begins map column bodies t))

entry_length : (t : ℕ) (there : Bool) (begins : ℕ) → length (entry_of t there begins) ≡ 8
entry_length t true begins = refl
entry_length t false begins = refl

pub entries_length : (there : ℕ → Bool) (begins : ℕ → ℕ) (n : ℕ) → length (joined n (λ t. entry_of t (there t) (begins t))) ≡ 8 * n
entries_length there begins n = joined_length (λ t. 8 * t) (λ t. entry_of t (there t) (begins t)) refl n (λ t l. omega (arith, entry_length t (there t) (begins t)))

module _ (map : List Bool) (column : ℕ) where
  pub body_of_length : (s : List ℕ) (t : ℕ) → t * column + column ≤ length s → length (body_of map column s t) ≡ cond (present map t) column 0
  body_of_length s t room = go (present map t)
    where
      go : (p : Bool) → length (cond p (take column (drop (t * column) s)) []) ≡ cond p column 0
      go true = length-take-le column _ (simp length-drop (omega arith))
      go false = refl

  pub bodies_length : (s : List ℕ) (n : ℕ) → n * column ≤ length s → length (joined n (body_of map column s)) ≡ present_below n map * column
  bodies_length s n room =
      joined_length (λ t. present_below t map * column) (body_of map column s) (bodies_none map column) n (λ t l.
      bodies_more map column t ∙ ap (λ x. present_below t map * column + x) (sym (body_of_length s t (let x = parts_end column l in omega arith))))

  pub body_fits : (t n : ℕ) → t < n → present map t ≡ true → present_below t map * column + column ≤ present_below n map * column
  unfolding present_below
  body_fits t n l e = parts_end column (count_under n (present map) t e l)

  -- where the next body begins, by whether column t has one
  pub begins_next : (bodies t : ℕ) (p : Bool) → present map t ≡ p → bodies + present_below t map * column + cond p column 0 ≡ bodies + present_below (t + 1) map * column
  begins_next bodies t p e = rw add-one (omega (arith, rw e at (bodies_more map column t)))

pub joined_same : {f g : ℕ → List ℕ} (n : ℕ) → ((t : ℕ) → t < n → f t ≡ g t) → joined n f ≡ joined n g
unfolding joined
joined_same zero same = refl
joined_same (suc n) same = ap₂ ◌++◌ (joined_same n (λ t l. same t (le_step l))) (same n (lt-suc_self n))

module _ (m k b : ℕ) (map : List Bool) where
  entry_same : (t : ℕ) → entry_of t (present map t) (bodies_at k + present_below t map * column_length m b) ≡ entry m k b map t
  unfolding entry offset
  entry_same t = go (present map t)
    where
      go : (p : Bool) → entry_of t p (bodies_at k + present_below t map * column_length m b) ≡ le2 t ++ (cond p 1 0 ∷ 0 ∷ le4 (cond p (bodies_at k + present_below t map * column_length m b) 0))
      go true = refl
      go false = refl

  pub image_same : (s : List ℕ) → four_numbers m k b 0 ++ (joined (k + 2) (λ t. entry_of t (present map t) (bodies_at k + present_below t map * column_length m b)) ++ joined (k + 2) (body_of map (column_length m b) s)) ≡ image_of m k b map s
  unfolding image_of body
  image_same s = ap (λ x. four_numbers m k b 0 ++ (x ++ joined (k + 2) (body_of map (column_length m b) s))) (joined_same (k + 2) (λ t l. entry_same t))
