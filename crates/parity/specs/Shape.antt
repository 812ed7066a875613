-- A shape is three numbers:
--   m   an odd prime from 3 to 127
--   k   the data columns really there, 1 to m
--   b   the bytes in a cell, 1 to 4,096
-- A column is m - 1 cells; a stripe is k + 2 columns: data 0 to k - 1, then H (number k), then D (number k + 1).
use Rattle.std.specs.Prelude.{◌≢◌, ◌≡◌, Bool, false, ◌||◌, List, [], ◌∷◌, eqb, ℕ, ◌+◌, ◌-◌, ◌*◌, ◌%◌, ◌≤◌, ◌<◌}

-- no number between 1 and p divides p
pub record Prime (p : ℕ) : Type 0 where
  pub big : 1 < p
  pub undivided : (d : ℕ) → 1 < d → d < p → p % d ≢ 0

pub record OddPrime (m : ℕ) : Type 0 where
  pub prime : Prime m
  pub odd : m % 2 ≡ 1
  pub most : m ≤ 127

-- the thirty accepted values of m
abbrev pub accepted : List ℕ
accepted = 3 ∷ 5 ∷ 7 ∷ 11 ∷ 13 ∷ 17 ∷ 19 ∷ 23 ∷ 29 ∷ 31 ∷ 37 ∷ 41 ∷ 43 ∷ 47 ∷ 53 ∷ 59 ∷ 61 ∷ 67 ∷ 71 ∷ 73 ∷ 79 ∷ 83 ∷ 89 ∷ 97 ∷ 101 ∷ 103 ∷ 107 ∷ 109 ∷ 113 ∷ 127 ∷ []

-- whether n stands in the list
abbrev pub member : ℕ → List ℕ → Bool
member n [] = false
member n (x ∷ xs) = eqb x n || member n xs

pub record Shape (m k b : ℕ) : Type 0 where
  pub value : OddPrime m
  pub real : 1 ≤ k
  pub few : k ≤ m
  pub filled : 1 ≤ b
  pub short : b ≤ 4096

-- the bytes of a column, of a stripe and of a bench
unfoldable pub column_length : ℕ → ℕ → ℕ
column_length m b = (m - 1) * b

unfoldable pub stripe_length : ℕ → ℕ → ℕ → ℕ
stripe_length m k b = (k + 2) * column_length m b

unfoldable pub bench_length : ℕ → ℕ → ℕ
bench_length m b = 2 * column_length m b
