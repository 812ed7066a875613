-- What stands in the bench, a buffer of two columns, when one or two absent columns of a stripe s were restored to it, or in room to which some rows of one
-- column were. Nothing is said of how: if a valid stripe agrees with s in the columns that are present, it is that stripe's absent columns that stand there.
--   Bench g s n                a stripe of that grid, and a bench of n bytes
--   Band g s p n               a stripe of that grid, and room of p bytes for n rows of a column: of short cells for all of them
--   SameBut m k b u s r        r has what s has in every column but u
--   SameButTwo m k b u u' s r  the same of every column but u and u'
--   RowsRestored …             w became v: its n cells are n rows of column u, from row `first` on
--   OneRestored …              w became v: its first half is column u, its second half, if it has one, is as it was
--   TwoRestored …              w became v: its halves are columns u and u'
use Rattle.std.specs.Prelude.{◌≡◌, ◌≢◌, List, ℕ, ◌+◌, ◌-◌, ◌*◌, ◌<◌, length, get_or}
use Rattle.parity.specs.Stripe.{byte, Valid}
use Rattle.lines.specs.declared.Grid.{Grid}
use Rattle.lines.specs.Lines.{Laid}

pub record Bench (g : Grid) (s : List ℕ) (n : ℕ) : Type 0 where
  pub laid : Laid g s
  pub bench : n ≡ 2 * g.column

pub record Band (g : Grid) (s : List ℕ) (p n : ℕ) : Type 0 where
  pub laid : Laid g s
  pub some : 0 < n
  pub room : p ≡ n * g.b
  pub short : g.b < 128 → n ≡ g.m - 1

abbrev pub SameBut : ℕ → ℕ → ℕ → ℕ → List ℕ → List ℕ → Type 0
SameBut m k b u s r = (l i t : ℕ) → l < b → i < m - 1 → t < k + 2 → t ≢ u → byte m b s l i t ≡ byte m b r l i t

abbrev pub SameButTwo : ℕ → ℕ → ℕ → ℕ → ℕ → List ℕ → List ℕ → Type 0
SameButTwo m k b u u' s r = (l i t : ℕ) → l < b → i < m - 1 → t < k + 2 → t ≢ u → t ≢ u' → byte m b s l i t ≡ byte m b r l i t

pub record RowsRestored (m k b u first n : ℕ) (s w v : List ℕ) : Type 0 where
  pub size : length v ≡ length w
  pub rows : (r : List ℕ) → Valid m k b r → SameBut m k b u s r → (l i : ℕ) → l < b → i < n → get_or v (i * b + l) 0 ≡ byte m b r l (first + i) u

pub record OneRestored (m k b u : ℕ) (s w v : List ℕ) : Type 0 where
  pub size : length v ≡ length w
  pub first : (r : List ℕ) → Valid m k b r → SameBut m k b u s r → (l i : ℕ) → l < b → i < m - 1 → byte m b v l i 0 ≡ byte m b r l i u
  pub second : (l i : ℕ) → l < b → i < m - 1 → byte m b v l i 1 ≡ byte m b w l i 1

pub record TwoRestored (m k b u u' : ℕ) (s w v : List ℕ) : Type 0 where
  pub size : length v ≡ length w
  pub both : (r : List ℕ) → Valid m k b r → SameButTwo m k b u u' s r
      → (l i : ℕ) → l < b → i < m - 1 → (byte m b v l i 0 ≡ byte m b r l i u) × (byte m b v l i 1 ≡ byte m b r l i u')
