-- Where the cells of a line begin in a stripe. The loops that sum cells are given their places, and know nothing of lines.
--   without u v a       the lane a with nothing in columns u and v
--   window m k a e i x y   line i of slant e over the columns from x up to y, and where these are the first with its end: row i of H for a row, of
--                       D for a diagonal
--   Follows g e i columns   line i can be followed through those columns, which are data columns
--   total at n s l      the sum of byte l of the cells of s that begin at the first n places of `at`
--   Within at n b z     each of those cells, of b bytes, ends within the first z bytes
--   Listed …            after the first n places of `at` stand others, at most `more`, up to place n' of `at'`; their cells, whatever
--                       bytes s they are cells of, add f s l to the sum, and end within the first z bytes
--   LineListed g e i columns n n' at at'   those others are the cells that line i of slant e has in those columns
--   RoomForLine g e i columns n z   of z places n are taken: the cells of that line have room after them, and the line can be followed
use Rattle.std.specs.Prelude.{◌≡◌, cond, List, ℕ, ◌+◌, ◌-◌, ◌*◌, ◌≤◌, ◌<◌, eqb, length, get_or}
use Rattle.parity.specs.Xor.{◌⊕◌}
use Rattle.parity.specs.Sum.{sum}
use Rattle.parity.specs.Equations.{Lane}
use Rattle.parity.specs.Stripe.{lane}
use Rattle.lines.specs.declared.Columns.{Columns}
use Rattle.lines.specs.declared.Grid.{Grid}
use Rattle.lines.specs.Lines.{real, span, Sized, Crosses}

unfoldable pub without : ℕ → ℕ → Lane → Lane
without u v a r t = cond (eqb t u) 0 (cond (eqb t v) 0 (a r t))

unfoldable pub window : ℕ → ℕ → Lane → ℕ → ℕ → ℕ → ℕ → ℕ
window m k a e i x y = cond (eqb x 0) (real m a i (k + e)) 0 ⊕ span m a e i x y

pub record Follows (g : Grid) (e i : ℕ) (columns : Columns) : Type 0 where
  pub sized : Sized g.m g.b g.column
  pub few : g.k ≤ g.m
  pub slant : e ≤ 1
  pub inside : i < g.m
  pub order : columns.from ≤ columns.to
  pub most : columns.to ≤ g.k

unfoldable pub total : List ℕ → ℕ → List ℕ → ℕ → ℕ
total at n s l = sum n (λ x. get_or s (get_or at x 0 + l) 0)

abbrev pub Within : List ℕ → ℕ → ℕ → ℕ → Type 0
Within at n b z = (x : ℕ) → x < n → get_or at x 0 + b ≤ z

pub record Listed (b z n n' more : ℕ) (at at' : List ℕ) (f : List ℕ → ℕ → ℕ) : Type 0 where
  pub size : length at' ≡ length at
  pub least : n ≤ n'
  pub most : n' ≤ n + more
  pub sums : (s : List ℕ) (l : ℕ) → total at' n' s l ≡ total at n s l ⊕ f s l
  pub within : (y : ℕ) → z ≤ y → Within at n b y → Within at' n' b y

abbrev pub LineListed : Grid → ℕ → ℕ → Columns → ℕ → ℕ → List ℕ → List ℕ → Type 0
LineListed g e i columns n n' at at' =
    Listed g.b (columns.to * g.column) n n' (columns.to - columns.from) at at' (λ s l. span g.m (without columns.u columns.v (lane g.m g.b s l)) e i columns.from columns.to)

abbrev pub RoomForLine : Grid → ℕ → ℕ → Columns → ℕ → ℕ → Type 0
RoomForLine g e i columns n z =
    (n + (columns.to - columns.from) ≤ z) × Sized g.m g.b g.column × Crosses g.m g.column (columns.to * g.column) e i columns.from columns.to
