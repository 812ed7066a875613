-- Cells of a buffer, one below another.
--   Lined n b at w v f     v is w, but that of the n cells of b bytes from `at` on cell r holds f r l at lane l
--   Room n b seed to       of n bytes, a cell of b bytes at `to`, and what its sum begins with: a cell at `seed`, which is not before it; or, at
--                          the end of the n bytes, nothing
use Rattle.std.specs.Prelude.{◌≡◌, List, ℕ, ◌+◌, ◌*◌, ◌≤◌, ◌<◌, length, get_or}

pub record Lined (n b at : ℕ) (w v : List ℕ) (f : ℕ → ℕ → ℕ) : Type 0 where
  pub size : length v ≡ length w
  pub inside : (r l : ℕ) → r < n → l < b → get_or v (at + (r * b + l)) 0 ≡ f r l
  pub before : (p : ℕ) → p < at → get_or v p 0 ≡ get_or w p 0
  pub after : (p : ℕ) → at + n * b ≤ p → get_or v p 0 ≡ get_or w p 0

pub record Room (n b seed to : ℕ) : Type 0 where
  pub inside : to + b ≤ n
  pub later : to ≤ seed
  pub near : seed ≤ n
  pub whole : seed < n → seed + b ≤ n
