-- What becomes of a run of bytes.
--   Added x y f      y is x with f 0, f 1, … added
--   Put s t at n f   t is s, but that the n bytes from `at` on are f 0, f 1, …
--   Through s t from mid to n   s became t: the n bytes at `from` were added to those at `mid`, and these then to those at `to`;
--                               `between` is what s was between the two
--   Exchanged s t at one two n f   s became t: the n bytes at `at` became f 0, f 1, …; what they changed by was added to the n bytes at `one` and to those at
--                    `two`; all others are as they were
--   Tells r n f      r is 0 exactly when f 0 to f (n - 1) are
--   FirstAt n f r    r is the first number below n at which f is not zero
--   First r n f      r is that number; None where there is none
--   Zeros x          every byte of x is zero
use Rattle.std.specs.Prelude.{◌≡◌, ◌≢◌, List, ℕ, ◌+◌, ◌≤◌, ◌<◌, length, get_or, Option, MatchOption}
use Rattle.parity.specs.Xor.{◌⊕◌}

pub record Added (x y : List ℕ) (f : ℕ → ℕ) : Type 0 where
  pub size : length y ≡ length x
  pub byte : (l : ℕ) → l < length x → get_or y l 0 ≡ get_or x l 0 ⊕ f l

pub record Put (s t : List ℕ) (at n : ℕ) (f : ℕ → ℕ) : Type 0 where
  pub size : length t ≡ length s
  pub inside : (l : ℕ) → l < n → get_or t (at + l) 0 ≡ f l
  pub before : (p : ℕ) → p < at → get_or t p 0 ≡ get_or s p 0
  pub after : (p : ℕ) → at + n ≤ p → get_or t p 0 ≡ get_or s p 0

pub record Through (s t : List ℕ) (from mid to n : ℕ) : Type 0 where
  pub between : List ℕ
  pub first : Put s between mid n (λ l. get_or s (mid + l) 0 ⊕ get_or s (from + l) 0)
  pub second : Put between t to n (λ l. get_or between (to + l) 0 ⊕ get_or between (mid + l) 0)

pub record Exchanged (s t : List ℕ) (at one two n : ℕ) (f : ℕ → ℕ) : Type 0 where
  pub size : length t ≡ length s
  pub inside : (l : ℕ) → l < n → get_or t (at + l) 0 ≡ f l
  pub first : (l : ℕ) → l < n → get_or t (one + l) 0 ≡ get_or s (one + l) 0 ⊕ (get_or s (at + l) 0 ⊕ f l)
  pub second : (l : ℕ) → l < n → get_or t (two + l) 0 ≡ get_or s (two + l) 0 ⊕ (get_or s (at + l) 0 ⊕ f l)
  pub others : (p : ℕ) → (at ≤ p → at + n ≤ p) → (one ≤ p → one + n ≤ p) → (two ≤ p → two + n ≤ p) → get_or t p 0 ≡ get_or s p 0

pub record Tells (r n : ℕ) (f : ℕ → ℕ) : Type 0 where
  pub none : r ≡ 0 → (l : ℕ) → l < n → f l ≡ 0
  pub all : ((l : ℕ) → l < n → f l ≡ 0) → r ≡ 0

pub record FirstAt (n : ℕ) (f : ℕ → ℕ) (r : ℕ) : Type 0 where
  pub within : r < n
  pub before : (l : ℕ) → l < r → f l ≡ 0
  pub there : f r ≢ 0

abbrev pub First : Option ℕ → ℕ → (ℕ → ℕ) → Type 0
First r n f = MatchOption r ((l : ℕ) → l < n → f l ≡ 0) (FirstAt n f)

pub record Zeros (x : List ℕ) : Type 0 where
  pub each : (l : ℕ) → l < length x → get_or x l 0 ≡ 0
