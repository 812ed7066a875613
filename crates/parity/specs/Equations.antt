-- The parity equations of one byte lane. A lane holds one byte of each cell: `a i t` is the byte in row i of column t.
--   cell m k a i t   a(i,t): the lane's byte, zero in row m - 1 and in the imaginary columns k to m - 1
--   H m k a i        the sum of a(i,t) over t from 0 to m - 1
--   S m k a          the sum of a(m - 1 - t, t) over t from 1 to m - 1
--   D m k a i        S plus the sum of a(i - t mod m, t) over t from 0 to m - 1
--   amount_h, amount_d the amount by which an equation breaks: what column H, or D, holds in row i, plus what the equation asks
use Rattle.std.specs.Prelude.{◌≡◌, cond, ℕ, suc, ◌+◌, ◌-◌, ◌%◌, ◌<◌, ltb}
use Rattle.parity.specs.Xor.{◌⊕◌}
use Rattle.parity.specs.Sum.{sum}

abbrev pub Lane : Type 0
Lane = ℕ → ℕ → ℕ

unfoldable pub cell : ℕ → ℕ → Lane → ℕ → ℕ → ℕ
cell m k a i t = cond (ltb i (m - 1)) (cond (ltb t k) (a i t) 0) 0

-- i - t modulo m, for t from 0 to m
unfoldable pub back : ℕ → ℕ → ℕ → ℕ
back m i t = (i + (m - t)) % m

unfoldable pub H : ℕ → ℕ → Lane → ℕ → ℕ
H m k a i = sum m (λ t. cell m k a i t)

-- t is j + 1
unfoldable pub S : ℕ → ℕ → Lane → ℕ
S m k a = sum (m - 1) (λ j. cell m k a (m - 1 - suc j) (suc j))

unfoldable pub D : ℕ → ℕ → Lane → ℕ → ℕ
D m k a i = S m k a ⊕ sum m (λ t. cell m k a (back m i t) t)

unfoldable pub amount_h : ℕ → ℕ → Lane → ℕ → ℕ
amount_h m k a i = a i k ⊕ H m k a i

unfoldable pub amount_d : ℕ → ℕ → Lane → ℕ → ℕ
amount_d m k a i = a i (k + 1) ⊕ D m k a i

-- all 2(m - 1) equations hold
pub record Holds (m k : ℕ) (a : Lane) : Type 0 where
  pub h : (i : ℕ) → i < m - 1 → a i k ≡ H m k a i
  pub d : (i : ℕ) → i < m - 1 → a i (k + 1) ≡ D m k a i
