-- Laws of written text.
--   wrote_none, wrote_then    nothing written, and one piece after another
--   wrote_same                the same text by another name
--   wrote_part                a lent part that came back as the text
--   decimal_one, decimal_more a number in decimal: one digit, and the last after the others
--   wrote_decimal, wrote_hex  a number or bytes written, with how far that goes
--   length_hex                each byte has two digits
--   hex_next                  one more byte in hexadecimal
use mathlib.Core.Path.{◌≡◌, refl, sym, ap, ◌∙◌}
use mathlib.Core.Bool.{Bool, true, false, cond}
use mathlib.Core.List.{List, [], ◌∷◌, ◌++◌, append_assoc, append-nil}
use Prim.Native.Nat.{ℕ, ◌+◌, ◌*◌, ◌/◌, ◌%◌, ◌≤◌, ◌<◌}
use native.Mathlib.Numerals.{add-one}
use native.Mathlib.Decide.{dec_lt}
use native.Mathlib.Omega.{arith}
use lib.Dec.{ltb}
use lib.ListN.{length, take, drop, get_or, length-append}
use lib.Seq.{take-suc, take-append-add, drop-append-add, drop-drop, length-take-le}
use borrow.Author.Tests.{lt-ltb, le-ltb}
use borrow.Rule.Slice.PartMut.{put_mid}
use Rattle.cells.proofs.Parts.{mid_length}
use Rattle.text.specs.Text.{glyph, two, three, four, decimal, hex_byte, hex, Wrote}

pub wrote_none : (x : List ℕ) (at : ℕ) → Wrote x x at at []
wrote_none x at = record { size = refl; ends = omega arith; text = sym (append-nil (take at x)); rest = refl }

pub wrote_then : {x y z : List ℕ} {at p r : ℕ} {t u : List ℕ} → Wrote x y at p t → Wrote y z p r u → Wrote x z at r (t ++ u)
wrote_then {x} {y} {z} {at} {p} {r} {t} {u} a b = record {
  size = b.size ∙ a.size;
  ends = omega (arith, a.ends, b.ends, length-append t u);
  text = b.text ∙ ap (λ (v : List ℕ). v ++ u) a.text ∙ append_assoc (take at x) t u;
  rest =
      b.rest
      ∙ ap (λ (k : ℕ). drop k y) b.ends
      ∙ sym (drop-drop (length u) p y)
      ∙ ap (drop (length u)) a.rest
      ∙ drop-drop (length u) p x
      ∙ sym (ap (λ (k : ℕ). drop k x) b.ends);
}

pub wrote_same : {x y : List ℕ} {at r : ℕ} {t u : List ℕ} → Wrote x y at r t → t ≡ u → Wrote x y at r u
wrote_same w e = rw e at w

pub wrote_part : (x t : List ℕ) (at n r : ℕ) → at + n ≤ length x → length t ≡ n → r ≡ at + n → Wrote x (put_mid at n x t) at r t
wrote_part x t at n r room l e = record {
  size = mid_length x t at n room l;
  ends = omega arith;
  text =
      let q : length (take at x) ≡ at = length-take-le at x (omega arith) in
      let d : r ≡ length (take at x) + (length t + 0) = omega arith in
      ap (λ (k : ℕ). take k (put_mid at n x t)) d
      ∙ take-append-add (take at x) (t ++ drop n (drop at x)) (length t + 0)
      ∙ ap (λ (v : List ℕ). take at x ++ v) (take-append-add t (drop n (drop at x)) 0 ∙ append-nil t);
  rest =
      let q : length (take at x) ≡ at = length-take-le at x (omega arith) in
      let d : r ≡ length (take at x) + (length t + 0) = omega arith in
      ap (λ (k : ℕ). drop k (put_mid at n x t)) d
      ∙ drop-append-add (take at x) (t ++ drop n (drop at x)) (length t + 0)
      ∙ drop-append-add t (drop n (drop at x)) 0
      ∙ drop-drop n at x
      ∙ ap (λ (k : ℕ). drop k x) (sym e);
}

pub decimal_one : (n : ℕ) → n < 10 → glyph n ∷ [] ≡ decimal n
unfolding decimal
decimal_one n h = rw (lt-ltb n 10 h)

module _ (n : ℕ) where
  three_more : two (n / 10) ++ glyph (n % 10) ∷ [] ≡ three n
  three_more =
      let a : n / 10 / 10 ≡ n / 100 = omega arith in
      let b : n / 10 % 10 ≡ n % 100 / 10 = omega arith in
      let d : n % 10 ≡ n % 100 % 10 = omega arith in
      rw (a, b, d)

  four_more : three (n / 10) ++ glyph (n % 10) ∷ [] ≡ four n
  four_more =
      let a : n / 10 / 100 ≡ n / 1000 = omega arith in
      let b : n / 10 % 100 / 10 ≡ n % 1000 / 100 = omega arith in
      let d : n / 10 % 100 % 10 ≡ n % 1000 % 100 / 10 = omega arith in
      let e : n % 10 ≡ n % 1000 % 100 % 10 = omega arith in
      rw (a, b, d, e)

  -- the last digit after the others
  pub decimal_more : 10 ≤ n → n < 10000 → decimal (n / 10) ++ glyph (n % 10) ∷ [] ≡ decimal n
  unfolding decimal
  decimal_more low most = elim (dec_lt n 100) [
    | yes h ↦ rw (lt-ltb (n / 10) 10 (omega arith), le-ltb n 10 low, lt-ltb n 100 h)
    | no h ↦ elim (dec_lt n 1000) [
      | yes h' ↦ rw (le-ltb (n / 10) 10 (omega arith), lt-ltb (n / 10) 100 (omega arith), le-ltb n 10 low, le-ltb n 100 (omega arith), lt-ltb n 1000 h') three_more
      | no h' ↦ rw (le-ltb (n / 10) 10 (omega arith), le-ltb (n / 10) 100 (omega arith), lt-ltb (n / 10) 1000 (omega arith), le-ltb n 10 low, le-ltb n 100 (omega arith), le-ltb n 1000 (omega arith)) four_more
    ]
  ]

cond_most : (c : Bool) (s t : List ℕ) (n : ℕ) → length s ≤ n → length t ≤ n → length (cond c s t) ≤ n
cond_most true s t n p q = p
cond_most false s t n p q = q

pub length_decimal : (n : ℕ) → length (decimal n) ≤ 4
unfolding decimal
length_decimal n =
    cond_most (ltb n 10) (glyph n ∷ []) _ 4 (omega arith)
    (cond_most (ltb n 100) (two n) _ 4 (omega arith) (cond_most (ltb n 1000) (three n) (four n) 4 (omega arith) (omega arith)))

pub length_hex : (s : List ℕ) → length (hex s) ≡ 2 * length s
unfolding hex
length_hex [] = refl
length_hex (x ∷ s) = omega (arith, length_hex s)

pub wrote_hex : {x y : List ℕ} {at r : ℕ} {t s : List ℕ} → Wrote x y at r (hex t) → t ≡ s → Wrote x y at r (hex s) × (r ≡ at + 2 * length s)
wrote_hex {t = t} w e = (wrote_same w (ap hex e), omega (arith, w.ends, length_hex t, ap length e))

hex_append : (s t : List ℕ) → hex (s ++ t) ≡ hex s ++ hex t
unfolding hex
hex_append [] t = refl
hex_append (x ∷ s) t = ap (λ (v : List ℕ). hex_byte x ++ v) (hex_append s t) ∙ sym (append_assoc (hex_byte x) (hex s) (hex t))

pub hex_none : (s : List ℕ) → [] ≡ hex (take 0 s)
unfolding hex
hex_none s = refl

pub hex_next : (s : List ℕ) (i : ℕ) → i < length s → hex (take i s) ++ hex_byte (get_or s i 0) ≡ hex (take (i + 1) s)
unfolding hex
hex_next s i h = sym (rw (add-one, take-suc s i 0 h) (hex_append (take i s) (get_or s i 0 ∷ []) ∙ ap (λ (v : List ℕ). hex (take i s) ++ v) (append-nil (hex_byte (get_or s i 0)))))
