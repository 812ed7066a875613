-- Over the numbers below n:
--   sum n f     the sum f 0 ⊕ f 1 ⊕ … ⊕ f (n - 1)
--   count n p   how many pass the test p
--   some n p    whether one passes the test p
use Rattle.std.specs.Prelude.{Bool, false, cond, ◌||◌, ℕ, zero, suc}
use Rattle.parity.specs.Xor.{◌⊕◌}

unfoldable pub sum : ℕ → (ℕ → ℕ) → ℕ
sum zero f = 0
sum (suc n) f = sum n f ⊕ f n

unfoldable pub count : ℕ → (ℕ → Bool) → ℕ
count zero p = 0
count (suc n) p = cond (p n) (suc (count n p)) (count n p)

unfoldable pub some : ℕ → (ℕ → Bool) → Bool
some zero p = false
some (suc n) p = p n || some n p
