-- What it is to change one data cell of a stripe: the cell in row `row` of column `column`.
--   stands_in_d m column row i     whether that cell stands in D's equation of row i: in S, and so in every one of them, or in diagonal i
--   depends m k column row i t   whether the cell in row i of column t depends on that cell: it is the cell itself, or H's cell in its row, or one of D's
--                                cells in whose equation it stands
--   SameAmounts m k b s v        in v every equation is broken by the amount by which it is in s, in every lane
--   CellChanged m k b column row cell s v
--                                v is s with that cell changed to `cell`: it holds these bytes, every equation is broken by the same amount as before, and
--                                every cell that does not depend on it is as it was
-- And what it is to change several, one after another. Items count from 0: item n is the cell whose column is number n of `columns` and whose row is
-- number n of `rows`; its new bytes are b of `cells`, where those of all items stand end to end.
--   new_cell b cells n            the new bytes of item n
--   InOrder step n s v           the steps 0 to n - 1 lead from s to v, one after another
--   CellsChanged m k b columns rows cells n s v
--                                v is s with the first n items changed in list order
use Rattle.std.specs.Prelude.{◌≡◌, Bool, false, ◌&&◌, ◌||◌, List, ℕ, zero, suc, ◌+◌, ◌-◌, ◌*◌, ◌<◌, eqb, length, get_or, take, drop}
use Rattle.parity.specs.Equations.{back, amount_h, amount_d}
use Rattle.parity.specs.Stripe.{byte, lane}

-- S has the cell in row m - 1 - t of each column t; of column 0 that is the imaginary row, which is no cell's. A cell never stands in an equation twice: S is
-- diagonal m - 1, and i is below that
unfoldable pub stands_in_d : ℕ → ℕ → ℕ → ℕ → Bool
stands_in_d m column row i = eqb (m - 1 - column) row || eqb (back m i column) row

unfoldable pub depends : ℕ → ℕ → ℕ → ℕ → ℕ → ℕ → Bool
depends m k column row i t = (eqb t column && eqb i row) || (eqb t k && eqb i row) || (eqb t (k + 1) && stands_in_d m column row i)

pub record SameAmounts (m k b : ℕ) (s v : List ℕ) : Type 0 where
  pub rows : (l i : ℕ) → l < b → i < m - 1 → amount_h m k (lane m b v l) i ≡ amount_h m k (lane m b s l) i
  pub diagonals : (l i : ℕ) → l < b → i < m - 1 → amount_d m k (lane m b v l) i ≡ amount_d m k (lane m b s l) i

pub record CellChanged (m k b column row : ℕ) (cell s v : List ℕ) : Type 0 where
  pub size : length v ≡ length s
  pub new : (l : ℕ) → l < b → byte m b v l row column ≡ get_or cell l 0
  pub amounts : SameAmounts m k b s v
  pub stays : (l i t : ℕ) → l < b → i < m - 1 → t < k + 2 → depends m k column row i t ≡ false → byte m b v l i t ≡ byte m b s l i t

abbrev pub new_cell : ℕ → List ℕ → ℕ → List ℕ
new_cell b cells n = take b (drop (n * b) cells)

unfoldable pub InOrder : (ℕ → List ℕ → List ℕ → Type 0) → ℕ → List ℕ → List ℕ → Type 0
InOrder step zero s v = v ≡ s
InOrder step (suc n) s v = (w : List ℕ) × InOrder step n s w × step n w v

abbrev pub CellsChanged : ℕ → ℕ → ℕ → List ℕ → List ℕ → List ℕ → ℕ → List ℕ → List ℕ → Type 0
CellsChanged m k b columns rows cells = InOrder (λ n. CellChanged m k b (get_or columns n 0) (get_or rows n 0) (new_cell b cells n))
