-- Numbers that stand in an image, in two bytes or in four.
--   Bytes image                 every number in the list is below 256
--   short_told, short_stands    a number below 65,536 that stands there is told there, and the other way round
--   entry_told, entry_stands    the same of an entry of the contents
use mathlib.Core.Path.{◌≡◌, sym, ap, ◌∙◌}
use mathlib.Core.List.{List, [], ◌∷◌, ◌++◌}
use Prim.Native.Nat.{ℕ, zero, suc, ◌+◌, ◌/◌, ◌%◌, ◌<◌}
use native.Mathlib.Nat.{mod-eq_of_lt}
use native.Mathlib.Omega.{arith}
use lib.Dec.{lit<}
use lib.ListN.{get_or}
use Rattle.image.specs.Format.{le2, le4}
use Rattle.image.specs.Reads.{number2}
use Rattle.image.specs.Entries.{number4, entry_at, Entry}
use Rattle.image.proofs.Standing.{Stands, stands_both, stands_first, stands_second}

abbrev pub Bytes : List ℕ → Type 0
Bytes image = (x : ℕ) → get_or image x 0 < 256

-- of a larger number two bytes tell the lower half
two_told : (image : List ℕ) (a n : ℕ) → Stands image a (le2 n) → number2 image a ≡ n % 65536
unfolding number2
two_told image a n s =
    let x : get_or image a 0 ≡ n % 256 = (let e : a ≡ a + 0 = omega arith in ap (λ i. get_or image i 0) e ∙ s.at 0 (lit< tt)) in
    let y : get_or image (a + 1) 0 ≡ n / 256 % 256 = s.at 1 (lit< tt) in
    omega arith

pub short_told : {image : List ℕ} {a n : ℕ} → n < 65536 → Stands image a (le2 n) → number2 image a ≡ n
short_told small s = two_told _ _ _ s ∙ mod-eq_of_lt small

four_told : (image : List ℕ) (a n : ℕ) → n < 4294967296 → Stands image a (le4 n) → number4 image a ≡ n
unfolding number4
four_told image a n l s =
    let x = two_told image a n (stands_first (le2 n) _ s) in
    let y = two_told image (a + 2) (n / 65536) (stands_second (le2 n) _ s) in
    omega arith

pub entry_told : (image : List ℕ) (t p o : ℕ) → t < 65536 → o < 4294967296 → Stands image (entry_at t) (le2 t ++ (p ∷ 0 ∷ le4 o)) → Entry image t p o
entry_told image t p o small fits s =
    let e : entry_at t + 2 + 2 ≡ entry_at t + 4 = omega arith in
    record {
      number = short_told small (stands_first (le2 t) _ s);
      marked = s.at 2 (lit< tt);
      zero = s.at 3 (lit< tt);
      begins = four_told image (entry_at t + 4) o fits (rw e at (stands_second (p ∷ 0 ∷ []) (le4 o) (stands_second (le2 t) _ s)));
    }

module _ (image : List ℕ) (bytes : Bytes image) where
  two_stands : (a n : ℕ) → number2 image a ≡ n % 65536 → Stands image a (le2 n)
  unfolding number2
  two_stands a n e = record { at = at }
    where
      at : (i : ℕ) → i < 2 → get_or image (a + i) 0 ≡ get_or (le2 n) i 0
      at zero h = let q : a + 0 ≡ a = omega arith in ap (λ i. get_or image i 0) q ∙ omega (arith, bytes a, bytes (a + 1))
      at (suc zero) h = omega (arith, bytes a, bytes (a + 1))
      at (suc (suc i)) h = absurd (omega arith)

  pub short_stands : {a n : ℕ} → n < 65536 → number2 image a ≡ n → Stands image a (le2 n)
  short_stands small e = two_stands _ _ (e ∙ sym (mod-eq_of_lt small))

  two_lt : (a : ℕ) → number2 image a < 65536
  unfolding number2
  two_lt a = omega (arith, bytes a, bytes (a + 1))

  four_stands : (a n : ℕ) → number4 image a ≡ n → Stands image a (le4 n)
  unfolding number4
  four_stands a n e =
      stands_both (le2 n) (le2 (n / 65536))
      (two_stands a n (omega (arith, two_lt a, two_lt (a + 2))))
      (two_stands (a + 2) (n / 65536) (omega (arith, two_lt a, two_lt (a + 2))))

  pub entry_stands : (t p o : ℕ) → t < 65536 → Entry image t p o → Stands image (entry_at t) (le2 t ++ (p ∷ 0 ∷ le4 o))
  entry_stands t p o small e =
      stands_both (le2 t) _
      (short_stands small e.number)
      (stands_both (p ∷ 0 ∷ []) (le4 o) (record { at = at }) (let q : entry_at t + 4 ≡ entry_at t + 2 + 2 = omega arith in rw q at (four_stands (entry_at t + 4) o e.begins)))
    where
      at : (i : ℕ) → i < 2 → get_or image (entry_at t + 2 + i) 0 ≡ get_or (p ∷ 0 ∷ []) i 0
      at zero h = let q : entry_at t + 2 + 0 ≡ entry_at t + 2 = omega arith in ap (λ i. get_or image i 0) q ∙ e.marked
      at (suc zero) h = let q : entry_at t + 2 + 1 ≡ entry_at t + 3 = omega arith in ap (λ i. get_or image i 0) q ∙ e.zero
      at (suc (suc i)) h = absurd (omega arith)
