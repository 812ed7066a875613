-- What encoding makes of a stripe.
--   Encoded m k b s t   t has the length and the data columns of s, and its equations hold in every lane
use Rattle.std.specs.Prelude.{◌≡◌, List, ℕ, ◌*◌, ◌<◌, length, get_or}
use Rattle.parity.specs.Shape.{column_length}
use Rattle.parity.specs.Equations.{Holds}
use Rattle.parity.specs.Stripe.{lane}

pub record Encoded (m k b : ℕ) (s t : List ℕ) : Type 0 where
  pub size : length t ≡ length s
  pub kept : (p : ℕ) → p < k * column_length m b → get_or t p 0 ≡ get_or s p 0
  pub holds : (l : ℕ) → l < b → Holds m k (lane m b t l)
