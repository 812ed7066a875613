-- Laws of `Tells`, a number that is 0 exactly when all of some others are, and of `Zeros`.
--   tells_none, tells_one   of no numbers, and of one more
--   tells_push              of the numbers of a list that has one more at its end
--   tells_same              of the same numbers by another name
--   zeros_at                a run of zeros has no other byte, past its end either
--   or_left, or_right, or_none   what is or-ed together is 0 exactly when both parts are
use mathlib.Core.Path.{◌≡◌, refl, sym, ap, ◌∙◌, subst}
use mathlib.Core.List.{List, [], ◌∷◌, ◌++◌}
use Prim.Native.Nat.{ℕ, ◌+◌, ◌<◌}
use native.Mathlib.Omega.{arith}
use lib.ListN.{length, get_or, get_or-append}
use lib.Bits.{bit_or, or_add_and, and_le_l, and_le_r}
use borrow.Author.Count.{below_more}
use Rattle.std.proofs.lemmas.List.{length_push, get_or_at}
use Rattle.parity.proofs.Bytes.{zeros_past}
use Rattle.cells.specs.Runs.{Tells, Zeros}

pub or_left : (a b : ℕ) → bit_or a b ≡ 0 → a ≡ 0
or_left a b e = omega (arith, or_add_and a b, and_le_r a b, e)

pub or_right : (a b : ℕ) → bit_or a b ≡ 0 → b ≡ 0
or_right a b e = omega (arith, or_add_and a b, and_le_l a b, e)

pub or_none : (a b : ℕ) → a ≡ 0 → b ≡ 0 → bit_or a b ≡ 0
or_none a b p q = ap (λ (x : ℕ). bit_or x b) p ∙ q

pub tells_none : (f : ℕ → ℕ) → Tells 0 0 f
tells_none f = record { none = λ e l h. absurd (omega arith); all = λ e. refl }

pub tells_one : (o j : ℕ) (f : ℕ → ℕ) (b : ℕ) → b ≡ f j → Tells o j f → Tells (bit_or o b) (j + 1) f
tells_one o j f b e s = record {
  none = λ z. below_more (λ (l : ℕ). f l ≡ 0) j (s.none (or_left o b z)) (sym e ∙ or_right o b z);
  all = λ z. or_none o b (s.all (λ l h. z l (omega arith))) (e ∙ z j (omega arith));
}

pub tells_same : {r n : ℕ} {f g : ℕ → ℕ} → Tells r n f → ((l : ℕ) → l < n → f l ≡ g l) → Tells r n g
tells_same s so = record { none = λ e l h. sym (so l h) ∙ s.none e l h; all = λ e. s.all (λ l h. so l h ∙ e l h) }

-- of the numbers of a list that has one more at its end
pub tells_push : (ys : List ℕ) (o b : ℕ) → Tells o (length ys) (λ l. get_or ys l 0) → Tells (bit_or o b) (length (ys ++ b ∷ [])) (λ l. get_or (ys ++ b ∷ []) l 0)
tells_push ys o b s =
    let f : ℕ → ℕ = λ l. get_or (ys ++ b ∷ []) l 0 in
    subst (λ (n : ℕ). Tells (bit_or o b) n f) (sym (length_push ys b)) (tells_one o (length ys) f b (sym (get_or_at ys b [] 0 (length ys) refl)) (tells_same s (λ l h. sym (get_or-append ys (b ∷ []) 0 l h))))

pub zeros_at : {x : List ℕ} → Zeros x → (l : ℕ) → get_or x l 0 ≡ 0
zeros_at {x} z = zeros_past x z.each
