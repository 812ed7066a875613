-- The columns that show hands out, as lists of bytes.
--   column_bytes m b s t      column t of the buffer s
--   shown m b map s bench t  column t: the stripe's if it is present, otherwise the one in the half of the bench where restore puts it
--   IsShown m b map s bench t r   r is column t, of the length of a column
--   ShownZeros m k b map s bench   every byte of every column is zero
--   Held m k b map s bench   show refuses none of the shape's columns
use Rattle.std.specs.Prelude.{◌≡◌, Bool, cond, List, ℕ, ◌+◌, ◌*◌, ◌≤◌, ◌<◌, length, take, drop}
use Rattle.parity.specs.Shape.{Shape, column_length, stripe_length, bench_length}
use Rattle.parity.specs.Presence.{present, absences}
use Rattle.cells.specs.Runs.{Zeros}
use Rattle.maps.specs.declared.Map.{Map}
use Rattle.maps.specs.Absent.{Stray}
use Rattle.maps.specs.Truth.{TrueMap}
use Rattle.evenodd.specs.Shows.{half}

unfoldable pub column_bytes : ℕ → ℕ → List ℕ → ℕ → List ℕ
column_bytes m b s t = take (column_length m b) (drop (t * column_length m b) s)

unfoldable pub shown : ℕ → ℕ → List Bool → List ℕ → List ℕ → ℕ → List ℕ
shown m b map s bench t = cond (present map t) (column_bytes m b s t) (column_bytes m b bench (half map t))

pub record IsShown (m b : ℕ) (map : List Bool) (s bench : List ℕ) (t : ℕ) (r : List ℕ) : Type 0 where
  pub same : r ≡ shown m b map s bench t
  pub size : length r ≡ column_length m b

pub record ShownZeros (m k b : ℕ) (map : List Bool) (s bench : List ℕ) : Type 0 where
  pub columns : (t : ℕ) → t < k + 2 → Zeros (shown m b map s bench t)

pub record Held (m k b : ℕ) (map : Map) (s bench : List ℕ) : Type 0 where
  pub shape : Shape m k b
  pub stripe : length s ≡ stripe_length m k b
  pub room : length bench ≡ bench_length m b
  pub truth : TrueMap map
  pub clear : Stray k map.places → ⊥
  pub few : absences k map.places ≤ 2
