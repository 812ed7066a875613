-- What becomes of a stripe of which one column is rewritten.
--   ColumnRewritten m k b u s t   s became t, which is as long: if some valid stripe has what s has in every column but u, t is that stripe
--   BandRewritten …               so far as a band goes: of column u the n rows from `first` on are those of that stripe, and the rows before them are as they were; so
--                                 are the other columns
use Rattle.std.specs.Prelude.{◌≡◌, List, ℕ, ◌+◌, ◌<◌, length}
use Rattle.parity.specs.Stripe.{byte, Valid}
use Rattle.restoring.specs.Restoring.{SameBut}

pub record ColumnRewritten (m k b u : ℕ) (s t : List ℕ) : Type 0 where
  pub size : length t ≡ length s
  pub becomes : (r : List ℕ) → Valid m k b r → SameBut m k b u s r → t ≡ r

pub record BandRewritten (m k b u first n : ℕ) (s t : List ℕ) : Type 0 where
  pub size : length t ≡ length s
  pub rows : (r : List ℕ) → Valid m k b r → SameBut m k b u s r → (l i : ℕ) → l < b → i < n → byte m b t l (first + i) u ≡ byte m b r l (first + i) u
  pub before : (l i : ℕ) → l < b → i < first → byte m b t l i u ≡ byte m b s l i u
  pub other : SameBut m k b u t s
