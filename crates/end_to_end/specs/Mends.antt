-- What mend answered and left, when locating and rewriting were one call. No call has this promise; locate and rewrite in sequence keep it (`PairMends`).
--   Mends      refused as locate is; passed: the stripe is now a valid one, and differed from it in exactly the column that is named. Where none is
--              named, the stripe being intact, blank or refused, nothing is written.
--   Pair       locate, and then rewrite of the column that it names, if any
--   PairMends  locate, and then rewrite of the column that it names, keep what mend promised: that rewrite passes, and leaves what mend left
--   MendsOne   what mend promised determines the number, the column and the stripe: mend did not tell blank from intact
use Rattle.std.specs.Prelude.{◌≡◌, List, ℕ, ◌+◌, ◌<◌, eqb, Result, Ok, ⊤}
use Rattle.parity.specs.Stripe.{Valid}
use Rattle.parity.specs.Presence.{DifferIn}
use Rattle.checking.specs.declared.locates.Located.{Located}
use Rattle.checking.specs.declared.locates.Located.TheVariants as located
use Rattle.refusals.specs.declared.Refusal.{Refusal}
use Rattle.refusals.specs.Refusals.{pass, verdict_of, Gives}
use Rattle.checking.specs.Locates.{locate_rules, column_of, Locates}
use Rattle.evenodd.specs.Rewrites.{Rewrites}

pub record Mends (m k b : ℕ) (before after : List ℕ) (r : Result Located Refusal) : Type 0 where
  pub told : Gives (locate_rules m k b before) (verdict_of r)
  pub valid : verdict_of r ≡ pass → Valid m k b after
  pub differed : verdict_of r ≡ pass → DifferIn m k b (eqb (column_of r)) before after
  pub kept : column_of r ≡ 129 → after ≡ before
  pub named : (u : ℕ) → r ≡ Ok (located.Column u) → u < k + 2

-- q is what rewrite answers, where it is called
pub record Pair (m k b : ℕ) (before after : List ℕ) (r : Result Located Refusal) (q : Result ⊤ Refusal) : Type 0 where
  pub looked : Locates m k b before r
  pub rewrote : (u : ℕ) → r ≡ Ok (located.Column u) → Rewrites m k b u before after q
  pub kept : column_of r ≡ 129 → after ≡ before

unfoldable pub PairMends : Type 0
PairMends = (m k b : ℕ) (before after : List ℕ) (r : Result Located Refusal) (q : Result ⊤ Refusal) → Pair m k b before after r q
    → Mends m k b before after r × ((u : ℕ) → r ≡ Ok (located.Column u) → q ≡ Ok tt)

unfoldable pub MendsOne : Type 0
MendsOne = (m k b : ℕ) (s x y : List ℕ) (r q : Result Located Refusal) → Mends m k b s x r → Mends m k b s y q
    → (verdict_of r ≡ verdict_of q) × (column_of r ≡ column_of q) × (x ≡ y)
