-- Which column of a stripe that is not valid is the wrong one.
--   Sound m k b s           the equations hold in every lane of the stripe s
--   Suspects m k b s r      what r says of the stripe s, of which some lane breaks: Some u, that only column u can be the wrong one; None, that no
--                           column alone can
--   Blamed m k b s r        Nothing, that no lane breaks; Column u, that one does, and the columns other than u fit a valid stripe; Nobody, that one
--                           does, and the columns other than one fit none, whichever that is
-- In parts:
--   Searched g s            a stripe in which that column can be looked for
--   RowBreaks g s i         row i of the stripe s breaks
--   OfLane g s n l          lane l of the stripe s, and room of n bytes for a column of it and its imaginary row
--   Summed m a n h d        h and d are the rows and the diagonals of lane a, the imaginary row and diagonal m - 1 too, over the first n columns
--   BreaksBy m k a h d      h and d are the amounts that the rows and the diagonals of lane a break by
--   Amounts m h d           h and d are as long as there are rows and diagonals to break
--   SomeSet n f             not all of f 0 to f (n - 1) are zero
--   TurnedAmounts m h d u   the diagonals' amounts d are the rows' amounts h, turned by u
--   Whether r P             r is true exactly if P holds
--   Fit m k h d u           column u can be the wrong one of a lane whose rows break by h and whose diagonals break by d
--   Blames m k h d r        what r says of such a lane: Some u, that column u can be the wrong one; None, that none can
use Rattle.std.specs.Prelude.{◌≡◌, Bool, true, false, Option, Some, None, List, ℕ, ◌+◌, ◌-◌, ◌%◌, ◌≤◌, ◌<◌, length, get_or}
use Rattle.parity.specs.Xor.{◌⊕◌}
use Rattle.parity.specs.Shape.{Prime}
use Rattle.parity.specs.Equations.{Lane, back, amount_h, amount_d, Holds}
use Rattle.parity.specs.Stripe.{lane}
use Rattle.parity.specs.Candidate.{FitsBut}
use Rattle.lines.specs.declared.Grid.{Grid}
use Rattle.lines.specs.Lines.{line, Laid}
use Rattle.locating.specs.declared.Suspect.{Suspect}
use Rattle.locating.specs.declared.Suspect.TheVariants.{Nothing, Column, Nobody}

abbrev pub Sound : ℕ → ℕ → ℕ → List ℕ → Type 0
Sound m k b s = (l : ℕ) → l < b → Holds m k (lane m b s l)

abbrev pub Suspects : ℕ → ℕ → ℕ → List ℕ → Option ℕ → Type 0
Suspects m k b s (Some u) = (Sound m k b s → ⊥) × (u < k + 2) × ((x : ℕ) → x < k + 2 → FitsBut m k b x s → x ≡ u)
Suspects m k b s None = (Sound m k b s → ⊥) × ((x : ℕ) → x < k + 2 → FitsBut m k b x s → ⊥)

abbrev pub Blamed : ℕ → ℕ → ℕ → List ℕ → Suspect → Type 0
Blamed m k b s Nothing = Sound m k b s
Blamed m k b s (Column u) = (Sound m k b s → ⊥) × (u < k + 2) × FitsBut m k b u s
Blamed m k b s Nobody = (Sound m k b s → ⊥) × ((x : ℕ) → x < k + 2 → FitsBut m k b x s → ⊥)

pub record Searched (g : Grid) (s : List ℕ) : Type 0 where
  pub laid : Laid g s
  pub odd : g.m % 2 ≡ 1
  pub prime : Prime g.m

pub record RowBreaks (g : Grid) (s : List ℕ) (i : ℕ) : Type 0 where
  pub inside : i < g.m - 1
  pub there : ((l : ℕ) → l < g.b → amount_h g.m g.k (lane g.m g.b s l) i ≡ 0) → ⊥

pub record OfLane (g : Grid) (s : List ℕ) (n l : ℕ) : Type 0 where
  pub laid : Laid g s
  pub inside : l < g.b
  pub room : n ≡ g.m

pub record Summed (m : ℕ) (a : Lane) (n : ℕ) (h d : List ℕ) : Type 0 where
  pub rows : length h ≡ m
  pub diagonals : length d ≡ m
  pub row : (i : ℕ) → i < m → get_or h i 0 ≡ line m a 0 i n
  pub diagonal : (i : ℕ) → i < m → get_or d i 0 ≡ line m a 1 i n

pub record BreaksBy (m k : ℕ) (a : Lane) (h d : List ℕ) : Type 0 where
  pub rows : length h ≡ m
  pub diagonals : length d ≡ m
  pub row : (i : ℕ) → i < m - 1 → get_or h i 0 ≡ amount_h m k a i
  pub last : get_or h (m - 1) 0 ≡ 0
  pub diagonal : (i : ℕ) → i < m - 1 → get_or d i 0 ≡ amount_d m k a i

pub record Amounts (m : ℕ) (h d : List ℕ) : Type 0 where
  pub rows : length h ≡ m
  pub diagonals : length d ≡ m - 1
  pub few : m ≤ 127

abbrev pub SomeSet : ℕ → (ℕ → ℕ) → Type 0
SomeSet n f = ((i : ℕ) → i < n → f i ≡ 0) → ⊥

abbrev pub TurnedAmounts : ℕ → (ℕ → ℕ) → (ℕ → ℕ) → ℕ → Type 0
TurnedAmounts m h d u = (i : ℕ) → i < m - 1 → d i ≡ h (back m i u) ⊕ h (back m (m - 1) u)

pub record Whether (r : Bool) (P : Type 0) : Type 0 where
  pub yes : r ≡ true → P
  pub no : r ≡ false → P → ⊥

pub record Fit (m k : ℕ) (h d : ℕ → ℕ) (u : ℕ) : Type 0 where
  pub datum : u < k → TurnedAmounts m h d u
  pub rows : u ≡ k → (i : ℕ) → i < m - 1 → d i ≡ 0
  pub diagonals : u ≡ k + 1 → (i : ℕ) → i < m - 1 → h i ≡ 0

abbrev pub Blames : ℕ → ℕ → (ℕ → ℕ) → (ℕ → ℕ) → Option ℕ → Type 0
Blames m k h d (Some u) = (u < k + 2) × Fit m k h d u
Blames m k h d None = (x : ℕ) → x < k + 2 → Fit m k h d x → ⊥
