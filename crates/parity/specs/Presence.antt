-- A presence map says of each place whether it is present. Nothing is learnt from what a column holds.
--   present map t              whether place t is marked present
--   absences k map             how many of a stripe's k + 2 columns are absent
--   differs m b s v t          whether s and v differ in column t
--   differing m k b s v        in how many columns they differ
--   DifferIn m k b c s v       they differ in exactly the columns that the test c names
--   Agrees m k b map s v       v has what s has in every present column
--   AgreesBut m k b u s v      v has what s has in every column but u
use Rattle.std.specs.Prelude.{◌≡◌, ◌≢◌, Bool, true, false, not, List, ℕ, ◌+◌, ◌-◌, ◌<◌, eqb, get_or}
use Rattle.parity.specs.Sum.{count, some}
use Rattle.parity.specs.Stripe.{byte}

unfoldable pub present : List Bool → ℕ → Bool
present map t = get_or map t false

unfoldable pub absences : ℕ → List Bool → ℕ
absences k map = count (k + 2) (λ t. not (present map t))

unfoldable pub differs : ℕ → ℕ → List ℕ → List ℕ → ℕ → Bool
differs m b s v t = some (m - 1) (λ i. some b (λ l. not (eqb (byte m b s l i t) (byte m b v l i t))))

unfoldable pub differing : ℕ → ℕ → ℕ → List ℕ → List ℕ → ℕ
differing m k b s v = count (k + 2) (differs m b s v)

pub record DifferIn (m k b : ℕ) (c : ℕ → Bool) (s v : List ℕ) : Type 0 where
  pub at : (t : ℕ) → t < k + 2 → differs m b s v t ≡ c t

pub record Agrees (m k b : ℕ) (map : List Bool) (s v : List ℕ) : Type 0 where
  pub at : (t : ℕ) → t < k + 2 → present map t ≡ true → differs m b s v t ≡ false

pub record AgreesBut (m k b u : ℕ) (s v : List ℕ) : Type 0 where
  pub at : (t : ℕ) → t < k + 2 → t ≢ u → differs m b s v t ≡ false
