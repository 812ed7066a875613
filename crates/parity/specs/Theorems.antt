-- What follows from the equations, for every shape. Each statement is a type, which proofs/Table (for Table), proofs/TwoWrong (where two columns were changed) and proofs/Theorems inhabit.
use Rattle.std.specs.Prelude.{◌≡◌, ◌≢◌, ◌↔◌, ◌⊎◌, Bool, true, List, [], ◌∷◌, ℕ, ◌+◌, ◌≤◌, ◌<◌, eqb}
use Rattle.parity.specs.Shape.{OddPrime, accepted, member, Shape}
use Rattle.parity.specs.Stripe.{Stripe, Valid, broken_rows, broken_diagonals, Blank, Intact}
use Rattle.parity.specs.Presence.{absences, differing, DifferIn, Agrees}

-- The table holds every odd prime up to 127 and nothing else.
unfoldable pub Table : Type 0
Table = (n : ℕ) → (member n accepted ≡ true) ↔ OddPrime n

-- Two different valid stripes of one shape differ in at least three columns.
unfoldable pub Distance : Type 0
Distance = (m k b : ℕ) → Shape m k b → (s v : List ℕ) → Valid m k b s → Valid m k b v → s ≢ v → 3 ≤ differing m k b s v

-- With at most two columns absent at most one valid stripe agrees with the columns that are present.
unfoldable pub AtMostOne : Type 0
AtMostOne = (m k b : ℕ) → Shape m k b → (map : List Bool) → absences k map ≤ 2 → (s v w : List ℕ) → Valid m k b v → Valid m k b w
    → Agrees m k b map s v → Agrees m k b map s w → v ≡ w

-- With exactly two columns absent exactly one valid stripe agrees, whatever the others hold.
unfoldable pub ExactlyOne : Type 0
ExactlyOne = (m k b : ℕ) → Shape m k b → (map : List Bool) → absences k map ≡ 2 → (s : List ℕ) → Stripe m k b s
    → (v : List ℕ) × Valid m k b v × Agrees m k b map s v × ((w : List ℕ) → Valid m k b w → Agrees m k b map s w → w ≡ v)

-- With three or more columns absent two different valid stripes agree, whatever the others hold.
unfoldable pub NeverOne : Type 0
NeverOne = (m k b : ℕ) → Shape m k b → (map : List Bool) → 3 ≤ absences k map → (s : List ℕ) → Stripe m k b s
    → (v : List ℕ) × (w : List ℕ) × Valid m k b v × Valid m k b w × Agrees m k b map s v × Agrees m k b map s w × (v ≢ w)

-- What stands in an absent column's place never alters what agrees.
unfoldable pub AbsentUnread : Type 0
AbsentUnread = (m k b : ℕ) (map : List Bool) (s r : List ℕ) → Agrees m k b map s r → (v : List ℕ) → Agrees m k b map s v ↔ Agrees m k b map r v

-- At most one column, one for all bytes of a cell, can be rewritten to make a stripe valid, and in one way.
unfoldable pub OneWrong : Type 0
OneWrong = (m k b : ℕ) → Shape m k b → (s u v : List ℕ) (x y : ℕ) → x < k + 2 → y < k + 2 → Valid m k b u → Valid m k b v
    → DifferIn m k b (eqb x) s u → DifferIn m k b (eqb y) s v → (x ≡ y) × (u ≡ v)

-- wrong is the valid stripe s of which exactly two columns, x and y, were changed
pub record TwoChanged (m k b x y : ℕ) (s wrong : List ℕ) : Type 0 where
  pub valid : Valid m k b s
  pub stripe : Stripe m k b wrong
  pub first : x < k + 2
  pub second : y < k + 2
  pub apart : x ≢ y
  pub differ : DifferIn m k b (λ t. member t (x ∷ y ∷ [])) s wrong

-- What is left then is not valid, and a valid stripe that differs from it in exactly one column differs in a third, and from s in exactly these three.
unfoldable pub TwoWrong : Type 0
TwoWrong = (m k b : ℕ) → Shape m k b → (x y : ℕ) (s wrong : List ℕ) → TwoChanged m k b x y s wrong
    → (Valid m k b wrong → ⊥)
    × ((u : ℕ) (v : List ℕ) → u < k + 2 → Valid m k b v → DifferIn m k b (eqb u) wrong v
    → (u ≢ x) × (u ≢ y) × DifferIn m k b (λ t. member t (x ∷ y ∷ u ∷ [])) s v × (differing m k b s v ≡ 3))

-- Any third can be that one: any two columns of a valid stripe can be changed so that a valid stripe differs from what is left in exactly that third.
unfoldable pub AnyThird : Type 0
AnyThird = (m k b : ℕ) → Shape m k b → (x y u : ℕ) → x < k + 2 → y < k + 2 → u < k + 2 → x ≢ y → u ≢ x → u ≢ y → (s : List ℕ) → Valid m k b s
    → (wrong : List ℕ) × TwoChanged m k b x y s wrong × ((v : List ℕ) × Valid m k b v × DifferIn m k b (eqb u) wrong v)

-- A stripe is valid exactly when both counts are zero.
unfoldable pub CountsTell : Type 0
CountsTell = (m k b : ℕ) (s : List ℕ) → Stripe m k b s → Valid m k b s ↔ ((broken_rows m k b s ≡ 0) × (broken_diagonals m k b s ≡ 0))

-- A stripe is valid exactly when it is intact or blank, and it is never both.
unfoldable pub IntactOrBlank : Type 0
IntactOrBlank = (m k b : ℕ) (s : List ℕ) → Stripe m k b s → (Valid m k b s ↔ (Intact m k b s ⊎ Blank m k b s)) × (Intact m k b s → Blank m k b s → ⊥)
