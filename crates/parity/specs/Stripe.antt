-- A stripe is its bytes, column after column, each from row 0 on.
--   byte m b s l i t       byte l of the cell in row i of column t
--   lane m b s l           byte l of every cell
--   Stripe m k b s         s has the length that the shape asks for, and numbers below 256
--   Valid m k b s          it is a stripe whose equations hold in every lane
--   broken_rows             the rows whose H equation breaks, a cell counting once however many of its bytes break
--   broken_diagonals        the same of D
--   Blank m k b s          every byte is zero. Like the counts it asks nothing of the length: what a list is too short for counts as zero
--   SomeByte m k b s       some byte is not
--   Intact m k b s         both counts are zero, and some byte is not
use Rattle.std.specs.Prelude.{◌≡◌, ◌≢◌, not, List, ℕ, ◌+◌, ◌-◌, ◌*◌, ◌<◌, eqb, length, get_or}
use Rattle.parity.specs.Sum.{count, some}
use Rattle.parity.specs.Shape.{column_length, stripe_length}
use Rattle.parity.specs.Equations.{Lane, amount_h, amount_d, Holds}

unfoldable pub byte : ℕ → ℕ → List ℕ → ℕ → ℕ → ℕ → ℕ
byte m b s l i t = get_or s (t * column_length m b + (i * b + l)) 0

abbrev pub lane : ℕ → ℕ → List ℕ → ℕ → Lane
lane m b s l = byte m b s l

pub record Stripe (m k b : ℕ) (s : List ℕ) : Type 0 where
  pub whole : length s ≡ stripe_length m k b
  pub bytes : (x : ℕ) → get_or s x 0 < 256

pub record Valid (m k b : ℕ) (s : List ℕ) : Type 0 where
  pub stripe : Stripe m k b s
  pub lanes : (l : ℕ) → l < b → Holds m k (lane m b s l)

unfoldable pub broken_rows : ℕ → ℕ → ℕ → List ℕ → ℕ
broken_rows m k b s = count (m - 1) (λ i. some b (λ l. not (eqb (amount_h m k (lane m b s l) i) 0)))

unfoldable pub broken_diagonals : ℕ → ℕ → ℕ → List ℕ → ℕ
broken_diagonals m k b s = count (m - 1) (λ i. some b (λ l. not (eqb (amount_d m k (lane m b s l) i) 0)))

pub record Blank (m k b : ℕ) (s : List ℕ) : Type 0 where
  pub zeros : (l i t : ℕ) → l < b → i < m - 1 → t < k + 2 → byte m b s l i t ≡ 0

pub record SomeByte (m k b : ℕ) (s : List ℕ) : Type 0 where
  pub l : ℕ
  pub i : ℕ
  pub t : ℕ
  pub inside : (l < b) × (i < m - 1) × (t < k + 2)
  pub there : byte m b s l i t ≢ 0

pub record Intact (m k b : ℕ) (s : List ℕ) : Type 0 where
  pub rows : broken_rows m k b s ≡ 0
  pub diagonals : broken_diagonals m k b s ≡ 0
  pub some : SomeByte m k b s
