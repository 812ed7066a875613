-- What locate answers. It reads only, and its promise speaks of valid stripes, and of blank ones, which are valid too.
--   locate_rules   1, 12, 13, 2, 6
--   found_of, column_of   the number of what was found, 0 where it is refused; the column that is named, 129 for none
--   OneDiffers    some valid stripe differs from s in exactly column u
--   Found         the stripe is called blank exactly when every byte is zero, and intact exactly when it is valid and not blank, which is what check calls
--                 intact (`SameWords`); column u is named exactly when `OneDiffers` holds of it
--   Locates       refused by `locate_rules`; passed: `Found`
use Rattle.std.specs.Prelude.{◌≡◌, ◌↔◌, List, [], ◌∷◌, ◌++◌, ℕ, ◌+◌, ◌<◌, eqb, length, Result, Ok, Err}
use Rattle.parity.specs.Stripe.{Valid, Blank}
use Rattle.parity.specs.Presence.{DifferIn}
use Rattle.checking.specs.declared.locates.Located.{Located}
use Rattle.checking.specs.declared.locates.Located.TheVariants as located
use Rattle.refusals.specs.declared.Refusal.{Refusal}
use Rattle.refusals.specs.Refusals.{pass, verdict_of, Rule, Gives}
use Rattle.inputs.specs.Rules.{unmendable, stripe_rules}

abbrev pub locate_rules : ℕ → ℕ → ℕ → List ℕ → List Rule
locate_rules m k b s = stripe_rules m k b (length s) ++ (unmendable m k b s ∷ [])

-- check, which names no column, has 3 for a broken stripe
abbrev pub found_of : Result Located Refusal → ℕ
found_of (Ok located.Intact) = 1
found_of (Ok located.Blank) = 2
found_of (Ok (located.Column u)) = 4
found_of (Err f) = 0

abbrev pub column_of : Result Located Refusal → ℕ
column_of (Ok located.Intact) = 129
column_of (Ok located.Blank) = 129
column_of (Ok (located.Column u)) = u
column_of (Err f) = 129

pub record OneDiffers (m k b : ℕ) (s : List ℕ) (u : ℕ) : Type 0 where
  pub inside : u < k + 2
  pub other : List ℕ
  pub valid : Valid m k b other
  pub differ : DifferIn m k b (eqb u) s other

pub record Found (m k b : ℕ) (s : List ℕ) (r : Result Located Refusal) : Type 0 where
  pub intact : (r ≡ Ok located.Intact) ↔ (Valid m k b s × (Blank m k b s → ⊥))
  pub blank : (r ≡ Ok located.Blank) ↔ Blank m k b s
  pub named : (u : ℕ) → (r ≡ Ok (located.Column u)) ↔ OneDiffers m k b s u

pub record Locates (m k b : ℕ) (s : List ℕ) (r : Result Located Refusal) : Type 0 where
  pub told : Gives (locate_rules m k b s) (verdict_of r)
  pub found : verdict_of r ≡ pass → Found m k b s r
