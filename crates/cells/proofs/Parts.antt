-- Parts of a list, as a lent part of a slice has them.
--   part s a e      what stands in s from a up to e
--   part_at, part_size   a byte of a part is one of the list, and a part has as many as it was cut to
--   parts_end       part t of k parts of c bytes each ends within them
--   mid-…           `put_mid a n w y`: what w becomes when the n bytes from a on were lent, and came back as y
use mathlib.Core.Path.{◌≡◌, sym, ap, ◌∙◌, subst}
use mathlib.Core.List.{List, ◌++◌}
use Prim.Native.Nat.{ℕ, ◌+◌, ◌*◌, ◌-◌, ◌≤◌, ◌<◌}
use native.Mathlib.Nat.{suc-mul, mul-le-mul_right}
use native.Mathlib.Decide.{dec_lt}
use native.Mathlib.Omega.{arith}
use lib.ListN.{length, take, drop, get_or, get_or-append, length-append, length-drop}
use lib.Seq.{get_or-take, get_or-drop, length-take-le, get_or-append-add}
use borrow.Rule.Slice.PartMut.{put_mid}

abbrev pub part : List ℕ → ℕ → ℕ → List ℕ
part s a e = take (e - a) (drop a s)

pub part_at : (s : List ℕ) (a e j : ℕ) → j < e - a → get_or (part s a e) j 0 ≡ get_or s (a + j) 0
part_at s a e j h = get_or-take (e - a) (drop a s) j 0 h ∙ get_or-drop a s j 0

pub part_size : (s : List ℕ) (a n : ℕ) → a + n ≤ length s → length (part s a (a + n)) ≡ n
part_size s a n h = let e : a + n - a ≤ length (drop a s) = simp length-drop (omega arith) in length-take-le (a + n - a) (drop a s) e ∙ omega arith

pub parts_end : {t k : ℕ} (c : ℕ) → t < k → t * c + c ≤ k * c
parts_end {t} {k} c h = subst (λ (n : ℕ). n ≤ k * c) (suc-mul t c) (mul-le-mul_right c h)

-- p is below a, or it is not
pub by_order : (P : Type 0) (p a : ℕ) → (p < a → P) → (a ≤ p → P) → P
by_order P p a f g = elim (dec_lt p a) [ yes l ↦ f l | no l ↦ g (omega arith) ]

module _ (w y : List ℕ) (a n : ℕ) (room : a + n ≤ length w) (l : length y ≡ n) where
  e : length (take a w) ≡ a
  e = length-take-le a w (omega arith)

  pub mid_length : length (put_mid a n w y) ≡ length w
  mid_length = simp (length-append, length-drop, e) (omega arith)

  pub mid_before : (p : ℕ) → p < a → get_or (put_mid a n w y) p 0 ≡ get_or w p 0
  mid_before p h = get_or-append (take a w) (y ++ drop n (drop a w)) 0 p (rw e h) ∙ get_or-take a w p 0 h

  pub mid_inside : (j : ℕ) → j < n → get_or (put_mid a n w y) (a + j) 0 ≡ get_or y j 0
  mid_inside j h =
      ap (λ (q : ℕ). get_or (put_mid a n w y) (q + j) 0) (sym e)
      ∙ get_or-append-add (take a w) (y ++ drop n (drop a w)) j 0
      ∙ get_or-append y (drop n (drop a w)) 0 j (omega arith)

  pub mid_after : (p : ℕ) → a + n ≤ p → get_or (put_mid a n w y) p 0 ≡ get_or w p 0
  mid_after p h =
      let x : ℕ = p - (a + n) in
      let q : p ≡ length (take a w) + (length y + x) = omega (arith, e) in
      ap (λ (q : ℕ). get_or (put_mid a n w y) q 0) q
      ∙ get_or-append-add (take a w) (y ++ drop n (drop a w)) (length y + x) 0
      ∙ get_or-append-add y (drop n (drop a w)) x 0
      ∙ get_or-drop n (drop a w) x 0
      ∙ get_or-drop a w (n + x) 0
      ∙ ap (λ (q : ℕ). get_or w q 0) (omega arith)
