-- What locate and rewrite do together, where one column is wrong, or none.
--   SameWords          check and locate call the same stripes intact, and the same ones blank
--   PairGivesBack      encode, change one column in any way, or in none: locate names it if it was changed, and rewrite of it gives the stripe back; if
--                      none was changed locate says intact, or blank where every byte is zero
--   NothingToRewrite   where locate gives 6, rewrite of any column gives 5: there is nothing to rewrite
--   NothingElseToRewrite   where locate names a column, rewrite of any other gives 5
--   RewriteKeepsValid  a valid stripe of which any column is rewritten stays as it is
--   RestoreAsRewrite   where rewrite of a column passes, restore with that column absent, and at most one other, passes too and gives what rewrite leaves;
--                      where rewrite gives 5, restore with that column absent and no other does
use Rattle.std.specs.Prelude.{◌≡◌, ◌≢◌, ◌↔◌, Bool, false, not, List, [], ◌∷◌, ℕ, ◌+◌, ◌≤◌, ◌<◌, Result, Ok, Err, ⊤}
use Rattle.parity.specs.Shape.{member, Shape}
use Rattle.parity.specs.Stripe.{Stripe, Valid, Blank}
use Rattle.parity.specs.Presence.{present, absences, AgreesBut}
use Rattle.maps.specs.declared.Gaps.{Gaps}
use Rattle.maps.specs.declared.Map.{Map}
use Rattle.refusals.specs.declared.Refusal.{Refusal}
use Rattle.refusals.specs.declared.Refusal.TheVariants.{Contradicted, Unmendable}
use Rattle.refusals.specs.Refusals.{pass, verdict_of}
use Rattle.checking.specs.declared.checks.Checked.{Checked}
use Rattle.checking.specs.declared.checks.Checked.TheVariants as checked
use Rattle.checking.specs.declared.locates.Located.{Located}
use Rattle.checking.specs.declared.locates.Located.TheVariants as located
use Rattle.evenodd.specs.Encodes.{Encodes}
use Rattle.checking.specs.Checks.{Checks}
use Rattle.evenodd.specs.Restores.{Restores}
use Rattle.checking.specs.Locates.{Locates}
use Rattle.evenodd.specs.Rewrites.{Rewrites}
use Rattle.end_to_end.specs.OneOrNothing.{Together, Asked}

unfoldable pub SameWords : Type 0
SameWords = (m k b : ℕ) (s : List ℕ) (r : Result Checked Refusal) (q : Result Located Refusal) → Stripe m k b s → Checks m k b s r → Locates m k b s q
    → ((r ≡ Ok checked.Intact) ↔ (q ≡ Ok located.Intact)) × ((r ≡ Ok checked.Blank) ↔ (q ≡ Ok located.Blank))

-- r says that nothing is wrong with s
pub record NothingWrong (m k b : ℕ) (s : List ℕ) (r : Result Located Refusal) : Type 0 where
  pub intact : (Blank m k b s → ⊥) → r ≡ Ok located.Intact
  pub blank : Blank m k b s → r ≡ Ok located.Blank

-- r names column u, and rewrite of it, whatever it answers and leaves, is done and leaves s
pub record NamedAndRewritten (m k b u : ℕ) (wrong s : List ℕ) (r : Result Located Refusal) : Type 0 where
  pub named : r ≡ Ok (located.Column u)
  pub rewritten : (after : List ℕ) (q : Result ⊤ Refusal) → Rewrites m k b u wrong after q → (q ≡ Ok tt) × (after ≡ s)

unfoldable pub PairGivesBack : Type 0
PairGivesBack = (m k b u : ℕ) (fresh s wrong : List ℕ) (r : Result Located Refusal) → Encodes m k b fresh s (Ok tt)
    → Stripe m k b wrong → u < k + 2 → AgreesBut m k b u wrong s
    → Locates m k b wrong r → (wrong ≡ s → NothingWrong m k b s r) × (wrong ≢ s → NamedAndRewritten m k b u wrong s r)

unfoldable pub NothingToRewrite : Type 0
NothingToRewrite = (m k b column : ℕ) (s after : List ℕ) (q : Result ⊤ Refusal) → Locates m k b s (Err Unmendable) → column < k + 2
    → Rewrites m k b column s after q → q ≡ Err Contradicted

unfoldable pub NothingElseToRewrite : Type 0
NothingElseToRewrite = (m k b u column : ℕ) (s after : List ℕ) (q : Result ⊤ Refusal) → Locates m k b s (Ok (located.Column u)) → column < k + 2 → column ≢ u
    → Rewrites m k b column s after q → q ≡ Err Contradicted

unfoldable pub RewriteKeepsValid : Type 0
RewriteKeepsValid = (m k b column : ℕ) (s after : List ℕ) (q : Result ⊤ Refusal) → Shape m k b → Valid m k b s → column < k + 2
    → Rewrites m k b column s after q → (q ≡ Ok tt) × (after ≡ s)

-- of the columns exactly those that are listed are absent
pub record AbsentAre (k : ℕ) (columns : List ℕ) (map : List Bool) : Type 0 where
  pub at : (t : ℕ) → t < k + 2 → present map t ≡ not (member t columns)

unfoldable pub RestoreAsRewrite : Type 0
RestoreAsRewrite = (m k b column : ℕ) (map : Map) (s before after left : List ℕ) (r : Result Gaps Refusal) (q : Result ⊤ Refusal) → Asked m k b map s before → column < k + 2
    → present map.places column ≡ false → absences k map.places ≤ 2 → Restores m k b map s before after r → Rewrites m k b column s left q
    → (q ≡ Ok tt → (verdict_of r ≡ pass) × Together m k b map.places s after left)
    × (AbsentAre k (column ∷ []) map.places → q ≡ Err Contradicted → r ≡ Err Contradicted)
