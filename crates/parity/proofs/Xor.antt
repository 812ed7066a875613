-- Laws of `◌⊕◌`: the numbers are a group under it in which each number is its own opposite.
--   simp xor           proves an equation of sums that differ in order, or in what stands in them twice
--   by_sum e (simp xor)  derives an equation from the equation e
--   ⊕_lt, ⊕_byte       sums of bytes are bytes
use mathlib.Core.Path.{◌≡◌, refl, sym, ap, ◌∙◌}
use Prim.Native.Nat.{ℕ, zero, suc, ◌/◌, ◌%◌, ◌<◌}
use native.Mathlib.Nat.{div-add-mod'}
use native.Mathlib.Omega.{arith}
use lib.Arith.{bin_ind}
use lib.Bits.{bit_xor, xor_comm, xor_self, xor_zero_r, xor_lt, xor_shr, xor_mod}
use Rattle.parity.specs.Xor.{◌⊕◌}

bit_assoc : (x y z : ℕ) → x < 2 → y < 2 → z < 2 → bit_xor (bit_xor x y) z ≡ bit_xor x (bit_xor y z)
bit_assoc zero y z hx hy hz = refl
bit_assoc (suc zero) zero z hx hy hz = refl
bit_assoc (suc zero) (suc zero) zero hx hy hz = refl
bit_assoc (suc zero) (suc zero) (suc zero) hx hy hz = refl
bit_assoc (suc zero) (suc zero) (suc (suc z)) hx hy hz = absurd (omega arith)
bit_assoc (suc zero) (suc (suc y)) z hx hy hz = absurd (omega arith)
bit_assoc (suc (suc x)) y z hx hy hz = absurd (omega arith)

-- two numbers with equal halves and equal last digits
by_digits : (x y : ℕ) → x / 2 ≡ y / 2 → x % 2 ≡ y % 2 → x ≡ y
by_digits x y p q = omega (arith, div-add-mod' x 2, div-add-mod' y 2)

xor_half : (a b : ℕ) → bit_xor a b / 2 ≡ bit_xor (a / 2) (b / 2)
xor_half a b = xor_shr a b 1

xor_last : (a b : ℕ) → bit_xor a b % 2 ≡ bit_xor (a % 2) (b % 2)
xor_last a b = xor_mod a b 1

last_lt : (a : ℕ) → a % 2 < 2
last_lt a = omega arith

xor_assoc : (a b c : ℕ) → bit_xor (bit_xor a b) c ≡ bit_xor a (bit_xor b c)
xor_assoc =
    bin_ind (λ (n : ℕ). (b c : ℕ) → bit_xor (bit_xor n b) c ≡ bit_xor n (bit_xor b c)) (λ b c. refl)
    (λ n ih b c. by_digits (bit_xor (bit_xor n b) c) (bit_xor n (bit_xor b c))
    (xor_half (bit_xor n b) c ∙ ap (λ (x : ℕ). bit_xor x (c / 2)) (xor_half n b) ∙ ih (b / 2) (c / 2)
    ∙ ap (bit_xor (n / 2)) (sym (xor_half b c)) ∙ sym (xor_half n (bit_xor b c)))
    (xor_last (bit_xor n b) c ∙ ap (λ (x : ℕ). bit_xor x (c % 2)) (xor_last n b)
    ∙ bit_assoc (n % 2) (b % 2) (c % 2) (last_lt n) (last_lt b) (last_lt c)
    ∙ ap (bit_xor (n % 2)) (sym (xor_last b c)) ∙ sym (xor_last n (bit_xor b c))))

pub ⊕_assoc : (a b c : ℕ) → a ⊕ b ⊕ c ≡ a ⊕ (b ⊕ c)
unfolding ◌⊕◌
⊕_assoc = xor_assoc

pub ⊕_comm : (a b : ℕ) → a ⊕ b ≡ b ⊕ a
unfolding ◌⊕◌
⊕_comm = xor_comm

pub ⊕_self : (a : ℕ) → a ⊕ a ≡ 0
unfolding ◌⊕◌
⊕_self = xor_self

pub ⊕_zero : (a : ℕ) → a ⊕ 0 ≡ a
unfolding ◌⊕◌
⊕_zero = xor_zero_r

pub zero_⊕ : (a : ℕ) → 0 ⊕ a ≡ a
unfolding ◌⊕◌
zero_⊕ a = refl

pub ⊕_lt : (a b : ℕ) → a < 256 → b < 256 → a ⊕ b < 256
unfolding ◌⊕◌
⊕_lt = xor_lt 8

pub ⊕_left_comm : (a b c : ℕ) → a ⊕ (b ⊕ c) ≡ b ⊕ (a ⊕ c)
⊕_left_comm a b c = rw (← (⊕_assoc a b c), ⊕_comm a b, ⊕_assoc b a c)

pub ⊕_cancel : (a b : ℕ) → a ⊕ (a ⊕ b) ≡ b
⊕_cancel a b = rw (← (⊕_assoc a a b), ⊕_self a, zero_⊕ b)

-- sorts a sum, and drops what stands in it twice
pub ruleset xor = (⊕_assoc, ⊕_comm, ⊕_left_comm, ⊕_self, ⊕_zero, zero_⊕, ⊕_cancel)

-- what is left of an equation when a summand is brought to the other side
pub ⊕_move : (a b c : ℕ) → a ⊕ b ≡ c → a ≡ c ⊕ b
⊕_move a b c e = rw (← e) (simp xor)

pub ⊕_eq : (a b : ℕ) → a ⊕ b ≡ 0 → a ≡ b
⊕_eq a b e = ⊕_move a b 0 e ∙ zero_⊕ b

-- an equation from another: `by_sum e (simp xor)`
pub by_sum : {a b l r : ℕ} → l ≡ r → a ⊕ l ≡ b ⊕ r → a ≡ b
by_sum {a} {b} {l} {r} e p = ⊕_move a l (b ⊕ r) p ∙ ap (λ x. b ⊕ r ⊕ x) e ∙ simp xor

pub ⊕_byte : (a b : ℕ) → (a ⊕ b) % 256 ≡ (a % 256) ⊕ (b % 256)
unfolding ◌⊕◌
⊕_byte a b = xor_mod a b 8
