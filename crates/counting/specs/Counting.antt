-- What is counted, and what the loops that count ask for.
--   breaking n b f            how many lines i below n have a lane l below b at which f l i is not zero
--   test_line g s u d l        lane l of line d of those that leave column u out
--   Found enough n b f r      r tells how many lines below n break so, all of them where it tells fewer than `enough`; and one that does
--   FoundBy g s u enough x r  that of those lines, but line m - 1, which differ from the cell x; FoundLines g s u enough r: from line m - 1
--   BrokenRow m k b s r       r is a row of the stripe s that breaks; None where none does
--   piece_of g s d columns l    what the cells that line d has in those columns, of which u is left out, add up to at lane l
--   Finding g d columns       that piece of a line can be followed
--   Seed x b                  a cell of b bytes, or an empty one, which stands for zero
--   ColumnRoom …              room for a column of a stripe, and for the places of a line's cells
--   Band …                    room for n lines from `first` on, for a cell after them at `seed`, and for the places of a group's cells
use Rattle.std.specs.Prelude.{◌≡◌, not, Option, Some, None, List, ℕ, ◌+◌, ◌*◌, ◌-◌, ◌≤◌, ◌<◌, eqb, length}
use Rattle.parity.specs.Xor.{◌⊕◌}
use Rattle.parity.specs.Sum.{count, some}
use Rattle.parity.specs.Equations.{amount_h}
use Rattle.parity.specs.Stripe.{lane}
use Rattle.lines.specs.declared.Columns.{Columns}
use Rattle.lines.specs.declared.Grid.{Grid}
use Rattle.lines.specs.Lines.{Sized, Laid}
use Rattle.counting.specs.declared.testing.Broken.{Broken}
use Rattle.counting.specs.But.{window_but, line_but}

unfoldable pub breaking : ℕ → ℕ → (ℕ → ℕ → ℕ) → ℕ
breaking n b f = count n (λ i. some b (λ l. not (eqb (f l i) 0)))

abbrev pub test_line : Grid → List ℕ → ℕ → ℕ → ℕ → ℕ
test_line g s u d l = line_but g.m g.k (lane g.m g.b s l) u d

pub record Found (enough n b : ℕ) (f : ℕ → ℕ → ℕ) (r : Broken) : Type 0 where
  pub most : r.count ≤ n
  pub counted : r.count < enough → r.count ≡ breaking n b f
  pub there : 0 < r.count → (r.last < n) × (((l : ℕ) → l < b → f l r.last ≡ 0) → ⊥)

abbrev pub FoundBy : Grid → List ℕ → ℕ → ℕ → (ℕ → ℕ) → Broken → Type 0
FoundBy g s u enough x r = Found enough (g.m - 1) g.b (λ l d. x l ⊕ test_line g s u d l) r

abbrev pub FoundLines : Grid → List ℕ → ℕ → ℕ → Broken → Type 0
FoundLines g s u enough r = FoundBy g s u enough (test_line g s u (g.m - 1)) r

abbrev pub BrokenRow : ℕ → ℕ → ℕ → List ℕ → Option ℕ → Type 0
BrokenRow m k b s (Some i) = (i < m - 1) × (((l : ℕ) → l < b → amount_h m k (lane m b s l) i ≡ 0) → ⊥)
BrokenRow m k b s None = (l i : ℕ) → l < b → i < m - 1 → amount_h m k (lane m b s l) i ≡ 0

abbrev pub piece_of : Grid → List ℕ → ℕ → Columns → ℕ → ℕ
piece_of g s d columns l = window_but g.m g.k (lane g.m g.b s l) columns.u d columns.from columns.to

pub record Finding (g : Grid) (d : ℕ) (columns : Columns) : Type 0 where
  pub sized : Sized g.m g.b g.column
  pub few : g.k ≤ g.m
  pub inside : d < g.m
  pub order : columns.from ≤ columns.to
  pub most : columns.to ≤ g.k

abbrev pub Seed : List ℕ → ℕ → Type 0
Seed x b = 0 < length x → b ≤ length x

pub record ColumnRoom (g : Grid) (s : List ℕ) (at w : ℕ) : Type 0 where
  pub laid : Laid g s
  pub places : 2 + 2 * g.k ≤ at
  pub whole : w ≡ g.column

pub record Band (g : Grid) (s : List ℕ) (at w seed first n : ℕ) : Type 0 where
  pub laid : Laid g s
  pub places : 18 ≤ at
  pub lines : first + n ≤ g.m
  pub before : n * g.b ≤ seed
  pub room : seed + g.b ≤ w
