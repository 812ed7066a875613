-- Below a prime p every number but zero has an inverse: a number e with a * e % p ≡ 1.
use mathlib.Core.Path.{◌≡◌, sym, ap, ◌∙◌}
use Prim.Native.Nat.{ℕ, zero, suc, ◌+◌, ◌-◌, ◌*◌, ◌/◌, ◌%◌, ◌≤◌, ◌<◌}
use native.Mathlib.Nat.{div-add-mod', div-le_self, add-mul-mod_self_right, mod-eq_of_lt, mod-lt, pos_of_ne-zero}
use native.Mathlib.Omega.{arith}
use Rattle.parity.specs.Shape.{Prime}

-- an inverse of the remainder p % a makes one of a
down : (p a e : ℕ) → (p % a) * e % p ≡ 1 → a * ((p - p / a) * e) % p ≡ 1
down p a e h =
    sym (add-mul-mod_self_right (a * ((p - p / a) * e)) e p) ∙ ap (λ x. x % p) balance ∙ add-mul-mod_self_right ((p % a) * e) (a * e) p ∙ h
  where
    less : p - p / a + p / a ≡ p
    less = omega (arith, div-le_self p a)

    balance : a * ((p - p / a) * e) + e * p ≡ (p % a) * e + a * e * p
    balance = omega (arith, ap (λ x. a * e * x) less, ap (λ x. x * e) (div-add-mod' p a))

pub inverse : (p : ℕ) → Prime p → (a : ℕ) → 0 < a → a < p → (e : ℕ) × (a * e % p ≡ 1)
inverse p prime a pos l = go a a (omega arith) pos l
  where
    go : (n a : ℕ) → a ≤ n → 0 < a → a < p → (e : ℕ) × (a * e % p ≡ 1)
    go zero a below pos l = absurd (omega arith)
    go (suc n) zero below pos l = absurd (omega arith)
    go (suc n) (suc zero) below pos l = (1, mod-eq_of_lt l)
    go (suc n) (suc (suc a)) below pos l =
        let small : p % suc (suc a) < suc (suc a) = mod-lt p (omega arith) in
        let r = go n (p % suc (suc a)) (omega arith) (pos_of_ne-zero (prime.undivided (suc (suc a)) (omega arith) l)) (omega arith) in
        ((p - p / suc (suc a)) * r.0, down p (suc (suc a)) r.0 r.1)
