-- The numbers C1 to C11, and others of ours, as claims about the definitions.
use Rattle.std.specs.Prelude.{◌≡◌, ◌≢◌, Bool, true, false, List, [], ◌∷◌, ℕ, ◌+◌, ◌-◌, ◌≤◌, ◌<◌, eqb, get_or}
use Rattle.parity.specs.Equations.{S}
use Rattle.parity.specs.Stripe.{byte, lane, Valid, broken_rows, broken_diagonals, Blank, Intact}
use Rattle.parity.specs.Presence.{absences, differing, DifferIn, Agrees}
use Rattle.parity.specs.Change.{depends, CellChanged}

-- a shape's m, k and b come first
pub data Claim : Type 0 where
  -- the stripe is valid
  valid : ℕ → ℕ → ℕ → List ℕ → Claim
  -- the stripe's S is this cell
  special : ℕ → ℕ → ℕ → List ℕ → List ℕ → Claim
  -- under the map the second stripe is the one valid stripe that agrees with the first
  agreeing : ℕ → ℕ → ℕ → List Bool → List ℕ → List ℕ → Claim
  -- at most two columns are absent, and no valid stripe agrees
  contradicted : ℕ → ℕ → ℕ → List Bool → List ℕ → Claim
  -- three or more columns are absent, and these two different valid stripes agree
  ambiguous : ℕ → ℕ → ℕ → List Bool → List ℕ → List ℕ → List ℕ → Claim
  -- so many rows and diagonals break
  counted : ℕ → ℕ → ℕ → List ℕ → ℕ → ℕ → Claim
  -- the second stripe is valid, and differs in exactly this column
  wrong : ℕ → ℕ → ℕ → List ℕ → ℕ → List ℕ → Claim
  -- no valid stripe differs in at most one column
  unmendable : ℕ → ℕ → ℕ → List ℕ → Claim
  -- the stripe is intact
  intact : ℕ → ℕ → ℕ → List ℕ → Claim
  -- the stripe is blank: it is valid, and no row or diagonal breaks
  blank : ℕ → ℕ → ℕ → List ℕ → Claim
  -- with the cell in that row of that column (the column is named first) changed to this one, the first stripe becomes the second, and every cell that
  -- depends on it differs
  changed : ℕ → ℕ → ℕ → ℕ → ℕ → List ℕ → List ℕ → List ℕ → Claim

abbrev pub Means : Claim → Type 0
Means (valid m k b s) = Valid m k b s
Means (special m k b s x) = (l : ℕ) → l < b → S m k (lane m b s l) ≡ get_or x l 0
Means (agreeing m k b map s v) =
    Valid m k b v × Agrees m k b map s v × ((w : List ℕ) → Valid m k b w → Agrees m k b map s w → w ≡ v)
Means (contradicted m k b map s) = (absences k map ≤ 2) × ((v : List ℕ) → Valid m k b v → Agrees m k b map s v → ⊥)
Means (ambiguous m k b map s v w) =
    (3 ≤ absences k map) × Valid m k b v × Valid m k b w × Agrees m k b map s v × Agrees m k b map s w × (v ≢ w)
Means (counted m k b s rows diagonals) = (broken_rows m k b s ≡ rows) × (broken_diagonals m k b s ≡ diagonals)
Means (wrong m k b s u v) = Valid m k b v × DifferIn m k b (eqb u) s v
Means (unmendable m k b s) = (v : List ℕ) → Valid m k b v → 2 ≤ differing m k b s v
Means (intact m k b s) = Intact m k b s
Means (blank m k b s) = Blank m k b s × Valid m k b s × (broken_rows m k b s ≡ 0) × (broken_diagonals m k b s ≡ 0)
Means (changed m k b column row cell s v) =
    CellChanged m k b column row cell s v × ((l i t : ℕ) → l < b → i < m - 1 → t < k + 2 → depends m k column row i t ≡ true → byte m b v l i t ≢ byte m b s l i t)

abbrev pub All : List Claim → Type 0
All [] = Unit {0}
All (c ∷ cs) = Means c × All cs

abbrev pub numbers : List Claim
numbers =
    -- C1
    valid 3 3 1 (0x01 ∷ 0x02 ∷ 0x04 ∷ 0x08 ∷ 0x10 ∷ 0x20 ∷ 0x15 ∷ 0x2a ∷ 0x39 ∷ 0x1e ∷ [])
    ∷ special 3 3 1 (0x01 ∷ 0x02 ∷ 0x04 ∷ 0x08 ∷ 0x10 ∷ 0x20 ∷ 0x15 ∷ 0x2a ∷ 0x39 ∷ 0x1e ∷ []) (0x18 ∷ [])
    -- C2
    ∷ valid 3 1 1 (0x01 ∷ 0x02 ∷ 0x01 ∷ 0x02 ∷ 0x01 ∷ 0x02 ∷ [])
    -- C3: the paper's example
    ∷ valid 5 5 1 (0 ∷ 0 ∷ 0 ∷ 0 ∷ 0 ∷ 0 ∷ 0 ∷ 1 ∷ 1 ∷ 0 ∷ 1 ∷ 1 ∷ 0 ∷ 0 ∷ 0 ∷ 1 ∷ 1 ∷ 1 ∷ 1 ∷ 0 ∷ 0 ∷ 1 ∷ 0 ∷ 1 ∷ 1 ∷ 1 ∷ 0 ∷ 1 ∷ [])
    -- C4: C3 with columns 0 and 2 absent; what stands in their places is not read
    ∷ agreeing 5 5 1 (false ∷ true ∷ false ∷ true ∷ true ∷ true ∷ true ∷ []) (7 ∷ 7 ∷ 7 ∷ 7 ∷ 0 ∷ 0 ∷ 0 ∷ 1 ∷ 7 ∷ 7 ∷ 7 ∷ 7 ∷ 0 ∷ 0 ∷ 0 ∷ 1 ∷ 1 ∷ 1 ∷ 1 ∷ 0 ∷ 0 ∷ 1 ∷ 0 ∷ 1 ∷ 1 ∷ 1 ∷ 0 ∷ 1 ∷ []) (0 ∷ 0 ∷ 0 ∷ 0 ∷ 0 ∷ 0 ∷ 0 ∷ 1 ∷ 1 ∷ 0 ∷ 1 ∷ 1 ∷ 0 ∷ 0 ∷ 0 ∷ 1 ∷ 1 ∷ 1 ∷ 1 ∷ 0 ∷ 0 ∷ 1 ∷ 0 ∷ 1 ∷ 1 ∷ 1 ∷ 0 ∷ 1 ∷ [])
    -- C5: C1 with columns 0 and 2 absent
    ∷ agreeing 3 3 1 (false ∷ true ∷ false ∷ true ∷ true ∷ []) (0xff ∷ 0xff ∷ 0x04 ∷ 0x08 ∷ 0xff ∷ 0xff ∷ 0x15 ∷ 0x2a ∷ 0x39 ∷ 0x1e ∷ []) (0x01 ∷ 0x02 ∷ 0x04 ∷ 0x08 ∷ 0x10 ∷ 0x20 ∷ 0x15 ∷ 0x2a ∷ 0x39 ∷ 0x1e ∷ [])
    -- C6: C1 with 04 turned to 05, column 0 absent
    ∷ contradicted 3 3 1 (false ∷ true ∷ true ∷ true ∷ true ∷ []) (0xff ∷ 0xff ∷ 0x05 ∷ 0x08 ∷ 0x10 ∷ 0x20 ∷ 0x15 ∷ 0x2a ∷ 0x39 ∷ 0x1e ∷ [])
    -- C7: the same, columns 0 and 2 absent
    ∷ agreeing 3 3 1 (false ∷ true ∷ false ∷ true ∷ true ∷ []) (0xff ∷ 0xff ∷ 0x05 ∷ 0x08 ∷ 0xff ∷ 0xff ∷ 0x15 ∷ 0x2a ∷ 0x39 ∷ 0x1e ∷ []) (0x00 ∷ 0x03 ∷ 0x05 ∷ 0x08 ∷ 0x10 ∷ 0x21 ∷ 0x15 ∷ 0x2a ∷ 0x39 ∷ 0x1e ∷ [])
    -- C8: the same, none absent
    ∷ counted 3 3 1 (0x01 ∷ 0x02 ∷ 0x05 ∷ 0x08 ∷ 0x10 ∷ 0x20 ∷ 0x15 ∷ 0x2a ∷ 0x39 ∷ 0x1e ∷ []) 1 1
    ∷ wrong 3 3 1 (0x01 ∷ 0x02 ∷ 0x05 ∷ 0x08 ∷ 0x10 ∷ 0x20 ∷ 0x15 ∷ 0x2a ∷ 0x39 ∷ 0x1e ∷ []) 1 (0x01 ∷ 0x02 ∷ 0x04 ∷ 0x08 ∷ 0x10 ∷ 0x20 ∷ 0x15 ∷ 0x2a ∷ 0x39 ∷ 0x1e ∷ [])
    -- C9: the only one-column repair would be of imaginary column 2
    ∷ counted 3 2 1 (0x01 ∷ 0x02 ∷ 0x04 ∷ 0x08 ∷ 0x15 ∷ 0x0a ∷ 0x19 ∷ 0x1e ∷ []) 1 2
    ∷ unmendable 3 2 1 (0x01 ∷ 0x02 ∷ 0x04 ∷ 0x08 ∷ 0x15 ∷ 0x0a ∷ 0x19 ∷ 0x1e ∷ [])
    -- C10: C1 with columns 0, 1 and 2 absent
    ∷ ambiguous 3 3 1 (false ∷ false ∷ false ∷ true ∷ true ∷ []) (0xff ∷ 0xff ∷ 0xff ∷ 0xff ∷ 0xff ∷ 0xff ∷ 0x15 ∷ 0x2a ∷ 0x39 ∷ 0x1e ∷ []) (0x01 ∷ 0x02 ∷ 0x04 ∷ 0x08 ∷ 0x10 ∷ 0x20 ∷ 0x15 ∷ 0x2a ∷ 0x39 ∷ 0x1e ∷ []) (0x01 ∷ 0x03 ∷ 0x05 ∷ 0x09 ∷ 0x11 ∷ 0x20 ∷ 0x15 ∷ 0x2a ∷ 0x39 ∷ 0x1e ∷ [])
    -- C11
    ∷ blank 3 3 1 (0 ∷ 0 ∷ 0 ∷ 0 ∷ 0 ∷ 0 ∷ 0 ∷ 0 ∷ 0 ∷ 0 ∷ [])
    -- ours. C1 is intact
    ∷ intact 3 3 1 (0x01 ∷ 0x02 ∷ 0x04 ∷ 0x08 ∷ 0x10 ∷ 0x20 ∷ 0x15 ∷ 0x2a ∷ 0x39 ∷ 0x1e ∷ [])
    -- C1 in two lanes, of which the first is wrong in column 0 and the second in column 1. No column is wrong in both
    ∷ counted 3 3 2 (0x00 ∷ 0x01 ∷ 0x02 ∷ 0x02 ∷ 0x04 ∷ 0x05 ∷ 0x08 ∷ 0x08 ∷ 0x10 ∷ 0x10 ∷ 0x20 ∷ 0x20 ∷ 0x15 ∷ 0x15 ∷ 0x2a ∷ 0x2a ∷ 0x39 ∷ 0x39 ∷ 0x1e ∷ 0x1e ∷ []) 1 2
    ∷ unmendable 3 3 2 (0x00 ∷ 0x01 ∷ 0x02 ∷ 0x02 ∷ 0x04 ∷ 0x05 ∷ 0x08 ∷ 0x08 ∷ 0x10 ∷ 0x10 ∷ 0x20 ∷ 0x20 ∷ 0x15 ∷ 0x15 ∷ 0x2a ∷ 0x2a ∷ 0x39 ∷ 0x39 ∷ 0x1e ∷ 0x1e ∷ [])
    -- C1 with a cell changed: row 0 of column 1, on diagonal 1; row 1 of column 2, on diagonal 0, past its jump to row 2; row 1 of column 1, on the diagonal of S
    ∷ changed 3 3 1 1 0 (0xff ∷ []) (0x01 ∷ 0x02 ∷ 0x04 ∷ 0x08 ∷ 0x10 ∷ 0x20 ∷ 0x15 ∷ 0x2a ∷ 0x39 ∷ 0x1e ∷ []) (0x01 ∷ 0x02 ∷ 0xff ∷ 0x08 ∷ 0x10 ∷ 0x20 ∷ 0xee ∷ 0x2a ∷ 0x39 ∷ 0xe5 ∷ [])
    ∷ changed 3 3 1 2 1 (0xff ∷ []) (0x01 ∷ 0x02 ∷ 0x04 ∷ 0x08 ∷ 0x10 ∷ 0x20 ∷ 0x15 ∷ 0x2a ∷ 0x39 ∷ 0x1e ∷ []) (0x01 ∷ 0x02 ∷ 0x04 ∷ 0x08 ∷ 0x10 ∷ 0xff ∷ 0x15 ∷ 0xf5 ∷ 0xe6 ∷ 0x1e ∷ [])
    ∷ changed 3 3 1 1 1 (0xff ∷ []) (0x01 ∷ 0x02 ∷ 0x04 ∷ 0x08 ∷ 0x10 ∷ 0x20 ∷ 0x15 ∷ 0x2a ∷ 0x39 ∷ 0x1e ∷ []) (0x01 ∷ 0x02 ∷ 0x04 ∷ 0xff ∷ 0x10 ∷ 0x20 ∷ 0x15 ∷ 0xdd ∷ 0xce ∷ 0xe9 ∷ [])
    -- C8 with the wrong cell changed to what it was in C1: the damage stays
    ∷ changed 3 3 1 1 0 (0x04 ∷ []) (0x01 ∷ 0x02 ∷ 0x05 ∷ 0x08 ∷ 0x10 ∷ 0x20 ∷ 0x15 ∷ 0x2a ∷ 0x39 ∷ 0x1e ∷ []) (0x01 ∷ 0x02 ∷ 0x04 ∷ 0x08 ∷ 0x10 ∷ 0x20 ∷ 0x14 ∷ 0x2a ∷ 0x39 ∷ 0x1f ∷ [])
    ∷ counted 3 3 1 (0x01 ∷ 0x02 ∷ 0x04 ∷ 0x08 ∷ 0x10 ∷ 0x20 ∷ 0x14 ∷ 0x2a ∷ 0x39 ∷ 0x1f ∷ []) 1 1
    ∷ []

unfoldable pub Numbers : Type 0
Numbers = All numbers
