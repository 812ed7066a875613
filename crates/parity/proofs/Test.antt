-- Tests that compute, so that facts on given numbers are proved by a computation.
--   passes t   the test's result
--   Says t     what it tests
--   proves     if it passes, then what it tests is so
use mathlib.Core.Path.{◌≡◌, refl}
use mathlib.Core.Logic.{◌≢◌}
use mathlib.Core.Bool.{Bool, true, false, not, ◌&&◌, ◌||◌, beq, false≢true}
use Prim.Native.Nat.{ℕ, ◌≤◌, ◌<◌}
use lib.Dec.{eqb, leb}
use borrow.Author.Tests.{eqb-true, eqb-false, leb-true, not-true, not-false}
use Rattle.parity.specs.Sum.{some}
use Rattle.parity.proofs.Count.{some_false, some_true}

pub data Test : Type 0 where
  -- of two numbers, and of two Bools
  equal unequal at_most : ℕ → ℕ → Test
  is : Bool → Bool → Test
  -- of two tests: both pass; the first passes, or else the second
  both or_else : Test → Test → Test
  -- of a test for each number below n
  every any : ℕ → (ℕ → Test) → Test

unfoldable pub passes : Test → Bool
passes (equal x y) = eqb x y
passes (unequal x y) = not (eqb x y)
passes (at_most x y) = leb x y
passes (is x y) = beq x y
passes (both s t) = passes s && passes t
passes (or_else s t) = passes s || passes t
passes (every n t) = not (some n (λ i. not (passes (t i))))
passes (any n t) = some n (λ i. passes (t i))

abbrev pub Says : Test → Type 0
Says (equal x y) = x ≡ y
Says (unequal x y) = x ≢ y
Says (at_most x y) = x ≤ y
Says (is x y) = x ≡ y
Says (both s t) = Says s × Says t
Says (or_else s t) = (Says s → ⊥) → Says t
Says (every n t) = (i : ℕ) → i < n → Says (t i)
Says (any n t) = (i : ℕ) × (i < n) × Says (t i)

pub proves : (t : Test) → passes t ≡ true → Says t
unfolding passes
proves (equal x y) e = eqb-true x y e
proves (unequal x y) e = eqb-false x y (not-true (eqb x y) e)
proves (at_most x y) e = leb-true x y e
proves (is x y) e = alike x y e
  where
    alike : (x y : Bool) → beq x y ≡ true → x ≡ y
    alike true true e = refl
    alike true false e = absurd (false≢true e)
    alike false true e = absurd (false≢true e)
    alike false false e = refl
proves (both s t) e = split (passes s) e (proves s) (proves t)
  where
    split : (x : Bool) → (x && passes t) ≡ true → (x ≡ true → Says s) → (passes t ≡ true → Says t) → Says s × Says t
    split true e p q = (p refl, q e)
    split false e p q = absurd (false≢true e)
proves (or_else s t) e = split (passes s) e (proves s) (proves t)
  where
    split : (x : Bool) → (x || passes t) ≡ true → (x ≡ true → Says s) → (passes t ≡ true → Says t) → (Says s → ⊥) → Says t
    split true e p q ne = absurd (ne (p refl))
    split false e p q ne = q e
proves (every n t) e = λ i l.
    proves (t i) (not-false (passes (t i)) (some_false n (λ i. not (passes (t i))) (not-true (some n (λ i. not (passes (t i)))) e) i l))
proves (any n t) e = let (i, l, p) = some_true n (λ i. passes (t i)) e in (i, l, proves (t i) p)
