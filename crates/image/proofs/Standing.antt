-- What stands where in a list of bytes.
--   Stands image a xs           the bytes of xs stand in image from a on
--   stands_here                 a list stands in itself
--   stands_all                  what stands in a list from its start, and is as long, is the list
--   stands_both, stands_first, stands_second    of two lists in a row: both, the first, the second
--   stands_each, stands_piece   of joined lists: all, where each stands after those before it; and the other way round
--   joined_length               the length of joined lists, where each begins after those before it
use mathlib.Core.Path.{◌≡◌, sym, ap, ◌∙◌}
use mathlib.Core.List.{List, ◌++◌}
use Prim.Native.Nat.{ℕ, zero, suc, ◌+◌, ◌-◌, ◌<◌}
use native.Mathlib.Nat.{lt-suc_self, le_step, eq-or-lt_of_le, le_of_suc-le-suc, not-suc-le-zero}
use native.Mathlib.Omega.{arith}
use mathlib.Core.Logic.{inl, inr}
use lib.ListN.{length, get_or, length-append, get_or-append}
use lib.Seq.{get_or-append-add, ext_get_or}
use Rattle.cells.proofs.Parts.{by_order}
use Rattle.image.specs.Format.{joined}

pub record Stands (image : List ℕ) (a : ℕ) (xs : List ℕ) : Type 0 where
  pub at : (i : ℕ) → i < length xs → get_or image (a + i) 0 ≡ get_or xs i 0

pub stands_here : (xs : List ℕ) → Stands xs 0 xs
stands_here xs = record { at = λ i h. let e : 0 + i ≡ i = omega arith in ap (λ n. get_or xs n 0) e }

pub stands_all : (image xs : List ℕ) → length image ≡ length xs → Stands image 0 xs → image ≡ xs
stands_all image xs e s = ext_get_or 0 image xs e (λ i h. let q : i ≡ 0 + i = omega arith in ap (λ n. get_or image n 0) q ∙ s.at i (rw e at h))

module _ {image : List ℕ} {a : ℕ} (xs ys : List ℕ) where
  pub stands_both : Stands image a xs → Stands image (a + length xs) ys → Stands image a (xs ++ ys)
  stands_both s t = record {
    at = λ i h. by_order (get_or image (a + i) 0 ≡ get_or (xs ++ ys) i 0) i (length xs)
        (λ l. s.at i l ∙ sym (get_or-append xs ys 0 i l))
        (λ l.
        let e : a + i ≡ a + length xs + (i - length xs) = omega arith in
        let q : length xs + (i - length xs) ≡ i = omega arith in
        ap (λ n. get_or image n 0) e ∙ t.at (i - length xs) (omega (arith, length-append xs ys)) ∙ sym (get_or-append-add xs ys (i - length xs) 0) ∙ ap (λ n. get_or (xs ++ ys) n 0) q);
  }

  pub stands_first : Stands image a (xs ++ ys) → Stands image a xs
  stands_first s = record { at = λ i h. s.at i (omega (arith, length-append xs ys)) ∙ get_or-append xs ys 0 i h }

  pub stands_second : Stands image a (xs ++ ys) → Stands image (a + length xs) ys
  stands_second s = record {
    at = λ i h.
        let e : a + length xs + i ≡ a + (length xs + i) = omega arith in
        ap (λ n. get_or image n 0) e ∙ s.at (length xs + i) (omega (arith, length-append xs ys)) ∙ get_or-append-add xs ys i 0;
  }

module _ {image : List ℕ} {a : ℕ} (f : ℕ → List ℕ) where
  pub stands_each : (n : ℕ) → ((t : ℕ) → t < n → Stands image (a + length (joined t f)) (f t)) → Stands image a (joined n f)
  unfolding joined
  stands_each zero h = record { at = λ i l. absurd (not-suc-le-zero l) }
  stands_each (suc n) h = stands_both (joined n f) (f n) (stands_each n (λ t l. h t (le_step l))) (h n (lt-suc_self n))

  pub stands_piece : (n t : ℕ) → t < n → Stands image a (joined n f) → Stands image (a + length (joined t f)) (f t)
  unfolding joined
  stands_piece zero t l s = absurd (not-suc-le-zero l)
  stands_piece (suc n) t l s = elim (eq-or-lt_of_le (le_of_suc-le-suc l)) [
    | inl e ↦ rw e (stands_second (joined n f) (f n) s)
    | inr h ↦ stands_piece n t h (stands_first (joined n f) (f n) s)
  ]

-- h t is where piece t begins
pub joined_length : (h : ℕ → ℕ) (f : ℕ → List ℕ) → h 0 ≡ 0 → (n : ℕ) → ((t : ℕ) → t < n → h (suc t) ≡ h t + length (f t)) → length (joined n f) ≡ h n
unfolding joined
joined_length h f z zero e = sym z
joined_length h f z (suc n) e =
    length-append (joined n f) (f n) ∙ ap (λ x. x + length (f n)) (joined_length h f z n (λ t l. e t (le_step l))) ∙ sym (e n (lt-suc_self n))
