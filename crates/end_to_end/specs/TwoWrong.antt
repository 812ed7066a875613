-- What the calls say where exactly two columns of a valid stripe were changed (`TwoChanged`).
--   SixOrAThird        check says neither intact nor blank and is not refused, and locate gives 6 or names a column that is neither of the two
--   AnyThirdNamed      it can be any third that is named, whatever the stripe and whichever the two
--   RewriteSeals       rewrite of the third that is named passes, and leaves a valid stripe that differs from the first in exactly three columns: it is never
--                      that one, and check never calls it broken
--   OneOfTwoAbsent     with one of the two absent, or none, and every other column present, restore gives 5
--   BothAbsent         with both absent, and no other column, restore gives back the first
--   OtherTwoAbsent     with two columns absent that are not both of them restore passes, and gives a valid stripe that is not the first
use Rattle.std.specs.Prelude.{◌≡◌, ◌≢◌, ◌⊎◌, true, List, [], ◌∷◌, ℕ, ◌+◌, ◌<◌, Result, Ok, Err, ⊤}
use Rattle.parity.specs.Shape.{member, Shape}
use Rattle.parity.specs.Stripe.{Valid}
use Rattle.parity.specs.Presence.{present, absences, differing, DifferIn}
use Rattle.parity.specs.Theorems.{TwoChanged}
use Rattle.maps.specs.declared.Gaps.{Gaps}
use Rattle.maps.specs.declared.Map.{Map}
use Rattle.refusals.specs.declared.Refusal.{Refusal}
use Rattle.refusals.specs.declared.Refusal.TheVariants.{Contradicted, Unmendable}
use Rattle.refusals.specs.Refusals.{pass, verdict_of}
use Rattle.checking.specs.declared.checks.Checked.{Checked}
use Rattle.checking.specs.declared.checks.Checked.TheVariants as checked
use Rattle.checking.specs.declared.locates.Located.{Located}
use Rattle.checking.specs.declared.locates.Located.TheVariants as located
use Rattle.checking.specs.Checks.{Checks}
use Rattle.evenodd.specs.Restores.{Restores}
use Rattle.checking.specs.Locates.{Locates}
use Rattle.evenodd.specs.Rewrites.{Rewrites}
use Rattle.end_to_end.specs.OneOrNothing.{Together, Asked}
use Rattle.end_to_end.specs.OneWrong.{AbsentAre}

unfoldable pub SixOrAThird : Type 0
SixOrAThird = (m k b x y : ℕ) (s wrong : List ℕ) (r : Result Checked Refusal) (q : Result Located Refusal) → Shape m k b → TwoChanged m k b x y s wrong → Checks m k b wrong r → Locates m k b wrong q
    → (r ≢ Ok checked.Intact) × (r ≢ Ok checked.Blank) × ((f : Refusal) → r ≢ Err f)
    × ((q ≡ Err Unmendable) ⊎ ((u : ℕ) × (q ≡ Ok (located.Column u)) × (u < k + 2) × (u ≢ x) × (u ≢ y)))

unfoldable pub AnyThirdNamed : Type 0
AnyThirdNamed = (m k b x y u : ℕ) (s : List ℕ) → Shape m k b → Valid m k b s → x < k + 2 → y < k + 2 → u < k + 2 → x ≢ y → u ≢ x → u ≢ y
    → (wrong : List ℕ) × TwoChanged m k b x y s wrong × ((q : Result Located Refusal) → Locates m k b wrong q → q ≡ Ok (located.Column u))

unfoldable pub RewriteSeals : Type 0
RewriteSeals = (m k b x y u : ℕ) (s wrong after : List ℕ) (q : Result ⊤ Refusal) → TwoChanged m k b x y s wrong → Locates m k b wrong (Ok (located.Column u)) → Rewrites m k b u wrong after q
    → (q ≡ Ok tt) × Valid m k b after × DifferIn m k b (λ t. member t (x ∷ y ∷ u ∷ [])) s after × (differing m k b s after ≡ 3) × (after ≢ s)
    × ((r : Result Checked Refusal) → Checks m k b after r → (r ≡ Ok checked.Intact) ⊎ (r ≡ Ok checked.Blank))

unfoldable pub OneOfTwoAbsent : Type 0
OneOfTwoAbsent = (m k b x y one : ℕ) (map : Map) (s wrong before after : List ℕ) (r : Result Gaps Refusal) → TwoChanged m k b x y s wrong → Asked m k b map wrong before
    → (one ≡ x) ⊎ (one ≡ y) → ((t : ℕ) → t < k + 2 → t ≢ one → present map.places t ≡ true) → Restores m k b map wrong before after r
    → (r ≡ Err Contradicted) × (after ≡ before)

unfoldable pub BothAbsent : Type 0
BothAbsent = (m k b x y : ℕ) (map : Map) (s wrong before after : List ℕ) (r : Result Gaps Refusal) → TwoChanged m k b x y s wrong → Asked m k b map wrong before
    → AbsentAre k (x ∷ y ∷ []) map.places → Restores m k b map wrong before after r
    → (verdict_of r ≡ pass) × Together m k b map.places wrong after s

unfoldable pub OtherTwoAbsent : Type 0
OtherTwoAbsent = (m k b x y : ℕ) (map : Map) (s wrong before after : List ℕ) (r : Result Gaps Refusal) → TwoChanged m k b x y s wrong → Asked m k b map wrong before
    → absences k map.places ≡ 2 → (present map.places x ≡ true) ⊎ (present map.places y ≡ true) → Restores m k b map wrong before after r
    → (verdict_of r ≡ pass) × ((v : List ℕ) × Valid m k b v × Together m k b map.places wrong after v × (v ≢ s))
