-- Laws of a shape.
--   accepted_prime, prime_accepted   the table, as the rule on m
--   odd_prime_of                     whether a number is an odd prime up to 127 is decided
--   whole_stripe                     the bytes of a stripe, by those of a column
--   column_most, places_most, parts_most    what is computed from a shape fits a number
use mathlib.Core.Path.{◌≡◌, refl, sym, ap, ◌∙◌}
use mathlib.Core.Bool.{Bool, true, false, true≢false}
use Prim.Native.Nat.{ℕ, ◌+◌, ◌*◌, ◌≤◌}
use native.Mathlib.Nat.{mul-le-mul}
use native.Mathlib.Omega.{arith}
use Rattle.parity.specs.Shape.{OddPrime, accepted, member, Shape, column_length, stripe_length}
use Rattle.parity.specs.Theorems.{Table}
use Rattle.parity.proofs.Table.{table}

pub accepted_prime : (m : ℕ) → member m accepted ≡ true → OddPrime m
unfolding Table
accepted_prime m e = (table m).0 e

pub prime_accepted : (m : ℕ) → OddPrime m → member m accepted ≡ true
unfolding Table
prime_accepted m p = (table m).1 p

pub odd_prime_of : (m : ℕ) → ((OddPrime m → ⊥) → ⊥) → OddPrime m
odd_prime_of m n = go (member m accepted) refl
  where
    go : (t : Bool) → member m accepted ≡ t → OddPrime m
    go true e = accepted_prime m e
    go false e = absurd (n (λ p. true≢false (sym (prime_accepted m p) ∙ e)))

pub whole_stripe : (m k b : ℕ) {c : ℕ} → c ≡ column_length m b → (k + 2) * c ≡ stripe_length m k b
unfolding stripe_length
whole_stripe m k b e = ap (λ (n : ℕ). (k + 2) * n) e

pub column_most : {m k b : ℕ} → Shape m k b → column_length m b ≤ 516096
unfolding column_length
column_most s = mul-le-mul {n₂ = 126} (omega (arith, s.value.most)) s.short

pub places_most : {m k b : ℕ} → Shape m k b → k + 2 ≤ 129
places_most s = omega (arith, s.few, s.value.most)

pub parts_most : {m k b c : ℕ} → Shape m k b → c ≡ column_length m b → (n : ℕ) → n ≤ 129 → n * c ≤ 66576384
parts_most s e n l = rw e (mul-le-mul {n₂ = 129} l (column_most s))
