-- What is or-ed into a run of bytes.
--   Clear x             every byte of x is zero
--   Gathered x y n f    x became y, which is as long: it is clear exactly when x is and f 0 to f (n - 1) are zero
use Rattle.std.specs.Prelude.{◌≡◌, List, ℕ, ◌<◌, length, get_or}

abbrev pub Clear : List ℕ → Type 0
Clear x = (l : ℕ) → l < length x → get_or x l 0 ≡ 0

pub record Gathered (x y : List ℕ) (n : ℕ) (f : ℕ → ℕ) : Type 0 where
  pub size : length y ≡ length x
  pub none : Clear y → Clear x × ((l : ℕ) → l < n → f l ≡ 0)
  pub all : Clear x → ((l : ℕ) → l < n → f l ≡ 0) → Clear y
