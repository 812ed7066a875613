-- Places that are present, counted.
--   byte_most          a place is counted at most once
--   present_more       one place more
--   same_count         where no place from n on is present, as many are present below n as below m
--   both_counted       each place is present or absent
--   one_more           a test that passes one number more counts one more
use mathlib.Core.Path.{◌≡◌, refl, sym, ap, ◌∙◌}
use mathlib.Core.Logic.{◌≢◌, ◌⊎◌, inl, inr}
use mathlib.Core.Bool.{Bool, true, false, not}
use mathlib.Core.List.{List}
use Prim.Native.Nat.{ℕ, zero, suc, ◌+◌, ◌≤◌, ◌<◌}
use native.Mathlib.Numerals.{add-one}
use native.Mathlib.Nat.{eq-or-lt_of_le, le_of_suc-le-suc, not-suc-le-zero}
use native.Mathlib.Decide.{le_ind}
use native.Mathlib.Omega.{arith}
use mir.Val.{bool_byte}
use Rattle.parity.specs.Sum.{count}
use Rattle.parity.specs.Presence.{present}
use Rattle.parity.proofs.Count.{count_cong}
use Rattle.maps.specs.Absent.{PresentFrom}

pub byte_most : (b : Bool) → bool_byte b ≤ 1
byte_most true = omega arith
byte_most false = omega arith

pub present_more : (t : ℕ) (map : List Bool) → count t (present map) + bool_byte (present map t) ≡ count (t + 1) (present map)
unfolding count
present_more t map = go (present map t) refl ∙ ap (λ (n : ℕ). count n (present map)) (sym (add-one t))
  where
    go : (b : Bool) → present map t ≡ b → count t (present map) + bool_byte (present map t) ≡ count (suc t) (present map)
    go true e = rw e (omega arith)
    go false e = rw e (omega arith)

pub same_count : (n : ℕ) (map : List Bool) → (PresentFrom n map → ⊥) → (m : ℕ) → n ≤ m → count m (present map) ≡ count n (present map)
unfolding count
same_count n map none m l = le_ind (λ x. count x (present map) ≡ count n (present map)) refl (λ x h ih. go x h (present map x) refl ih) m l
  where
    go : (x : ℕ) → n ≤ x → (b : Bool) → present map x ≡ b → count x (present map) ≡ count n (present map) → count (suc x) (present map) ≡ count n (present map)
    go x h true e ih = absurd (none (record { at = x; above = h; there = e }))
    go x h false e ih = rw e ih

pub both_counted : (n : ℕ) (f : ℕ → Bool) → count n (λ t. not (f t)) + count n f ≡ n
unfolding count
both_counted zero f = refl
both_counted (suc n) f = go (f n) refl (both_counted n f)
  where
    go : (b : Bool) → f n ≡ b → count n (λ t. not (f t)) + count n f ≡ n → count (suc n) (λ t. not (f t)) + count (suc n) f ≡ suc n
    go true e ih = rw e (omega arith)
    go false e ih = rw e (omega arith)

-- g passes p and every number that f passes
pub one_more : (n p : ℕ) (f g : ℕ → Bool) → p < n → f p ≡ false → g p ≡ true → ((t : ℕ) → t ≢ p → g t ≡ f t) → count n g ≡ suc (count n f)
unfolding count
one_more zero p f g l e d same = absurd (not-suc-le-zero l)
one_more (suc n) p f g l e d same = go (eq-or-lt_of_le (le_of_suc-le-suc l)) (λ h. one_more n p f g h e d same)
  where
    go : (p ≡ n) ⊎ (p < n) → (p < n → count n g ≡ suc (count n f)) → count (suc n) g ≡ suc (count (suc n) f)
    go (inl q) ih =
        let f0 : f n ≡ false = ap f (sym q) ∙ e in
        let g1 : g n ≡ true = ap g (sym q) ∙ d in
        rw (f0, g1, count_cong n {f = g} {g = f} (λ t h. same t (λ z. omega arith)))
    go (inr h) ih = more (f n) refl (ih h)
      where
        more : (b : Bool) → f n ≡ b → count n g ≡ suc (count n f) → count (suc n) g ≡ suc (count (suc n) f)
        more true q i = rw (same n (λ z. omega arith), q) (omega arith)
        more false q i = rw (same n (λ z. omega arith), q) i
