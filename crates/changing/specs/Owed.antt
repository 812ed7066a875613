-- What D's cells are owed: while several cells are changed, what those on the diagonal of S would add to every cell of D is gathered, to be added once.
--   due k owed l t       what lane l of a cell of column t is owed: byte l of `owed` in column D, and nothing in any other
--   Paid m k b owed s v  v is s once every cell of D has got what it is owed
--   OncePaid m k b owed s debt t R
--                        s and what D's cells were owed became t and `debt`; once both are paid, R holds of them
use Rattle.std.specs.Prelude.{◌≡◌, cond, List, ℕ, ◌+◌, ◌-◌, ◌<◌, eqb, length, get_or}
use Rattle.parity.specs.Xor.{◌⊕◌}
use Rattle.parity.specs.Stripe.{byte}

abbrev pub due : ℕ → List ℕ → ℕ → ℕ → ℕ
due k owed l t = cond (eqb t (k + 1)) (get_or owed l 0) 0

pub record Paid (m k b : ℕ) (owed s v : List ℕ) : Type 0 where
  pub size : length v ≡ length s
  pub bytes : (l i t : ℕ) → l < b → i < m - 1 → t < k + 2 → byte m b v l i t ≡ byte m b s l i t ⊕ due k owed l t

pub record OncePaid (m k b : ℕ) (owed s debt t : List ℕ) (R : List ℕ → List ℕ → Type 0) : Type 0 where
  pub size : length t ≡ length s
  pub room : length debt ≡ length owed
  pub holds : (v w : List ℕ) → Paid m k b owed s v → Paid m k b debt t w → R v w
