-- What restore gives: the one stripe, or nothing.
--   OneOrNothing       if exactly one valid stripe agrees with the columns that are present, restore gives it: stripe and bench together are that one.
--                      Otherwise it gives nothing, and says why: 4 exactly when two different ones agree, 5 exactly when none does
--   RestoreGivesBack   encode, lose at most two columns, whatever stands in their places: restore gives them back
use Rattle.std.specs.Prelude.{◌≡◌, ◌≢◌, ◌↔◌, ◌⊎◌, Bool, cond, List, ℕ, ◌+◌, ◌-◌, ◌≤◌, ◌<◌, length, Result, Ok, Err}
use Rattle.parity.specs.Shape.{Shape, bench_length}
use Rattle.parity.specs.Stripe.{byte, Stripe, Valid}
use Rattle.parity.specs.Presence.{present, absences, Agrees}
use Rattle.maps.specs.declared.Gaps.{Gaps}
use Rattle.maps.specs.declared.Map.{Map}
use Rattle.refusals.specs.declared.Refusal.{Refusal}
use Rattle.refusals.specs.declared.Refusal.TheVariants.{Ambiguous, Contradicted}
use Rattle.refusals.specs.Refusals.{pass, verdict_of}
use Rattle.maps.specs.Absent.{Stray}
use Rattle.maps.specs.Truth.{TrueMap}
use Rattle.evenodd.specs.Encodes.{Encodes}
use Rattle.evenodd.specs.Restores.{count_of, first_of, second_of, Benched, Restores}
use Rattle.evenodd.specs.Shows.{half}

-- v is a valid stripe that agrees with the columns of s that are present
pub record Fits (m k b : ℕ) (map : List Bool) (s v : List ℕ) : Type 0 where
  pub valid : Valid m k b v
  pub agrees : Agrees m k b map s v

-- v does, and no other
pub record FitsAlone (m k b : ℕ) (map : List Bool) (s v : List ℕ) : Type 0 where
  pub fits : Fits m k b map s v
  pub only : (w : List ℕ) → Fits m k b map s w → w ≡ v

-- two different ones do
pub record TwoFit (m k b : ℕ) (map : List Bool) (s : List ℕ) : Type 0 where
  pub one : List ℕ
  pub other : List ℕ
  pub first : Fits m k b map s one
  pub second : Fits m k b map s other
  pub different : one ≢ other

-- none does
abbrev pub NoneFits : ℕ → ℕ → ℕ → List Bool → List ℕ → Type 0
NoneFits m k b map s = (v : List ℕ) → Fits m k b map s v → ⊥

-- stripe and bench together are v: a present column stands in the stripe, and an absent one in the half of the bench where restore puts it
pub record Together (m k b : ℕ) (map : List Bool) (s bench v : List ℕ) : Type 0 where
  pub at : (l i t : ℕ) → l < b → i < m - 1 → t < k + 2
      → byte m b v l i t ≡ cond (present map t) (byte m b s l i t) (byte m b bench l i (half map t))

-- a good shape, a stripe and a bench of its lengths, and a true map without strays
pub record Asked (m k b : ℕ) (map : Map) (s bench : List ℕ) : Type 0 where
  pub shape : Shape m k b
  pub stripe : Stripe m k b s
  pub held : length bench ≡ bench_length m b
  pub truth : TrueMap map
  pub clear : Stray k map.places → ⊥

pub record GivesTheOne (m k b : ℕ) (map : List Bool) (s before after : List ℕ) (r : Result Gaps Refusal) : Type 0 where
  pub given : (verdict_of r ≡ pass) ↔ ((v : List ℕ) × FitsAlone m k b map s v)
  pub together : (v : List ℕ) → FitsAlone m k b map s v → Together m k b map s after v
  pub ambiguous : (r ≡ Err Ambiguous) ↔ TwoFit m k b map s
  pub contradicted : (r ≡ Err Contradicted) ↔ NoneFits m k b map s
  pub refused : (f : Refusal) → r ≡ Err f → ((f ≡ Ambiguous) ⊎ (f ≡ Contradicted)) × (after ≡ before)

unfoldable pub OneOrNothing : Type 0
OneOrNothing = (m k b : ℕ) (map : Map) (s before after : List ℕ) (r : Result Gaps Refusal) → Asked m k b map s before
    → Restores m k b map s before after r → GivesTheOne m k b map.places s before after r

-- r names the columns, and the bench holds them as they stand in s
pub record GivenBack (m b : ℕ) (s before after : List ℕ) (r : Result Gaps Refusal) : Type 0 where
  pub passed : verdict_of r ≡ pass
  pub bench : Benched m b (count_of r) (first_of r) (second_of r) s before after

unfoldable pub RestoreGivesBack : Type 0
RestoreGivesBack = (m k b : ℕ) (map : Map) (fresh s lost before after : List ℕ) (r : Result Gaps Refusal) → Encodes m k b fresh s (Ok tt)
    → length lost ≡ length s → Agrees m k b map.places s lost → length before ≡ bench_length m b → TrueMap map → (Stray k map.places → ⊥) → absences k map.places ≤ 2
    → Restores m k b map lost before after r → GivenBack m b s before after r
