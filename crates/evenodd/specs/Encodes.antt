-- What encode answers and leaves.
--   Written    what is left: done, a valid stripe with the data columns as they were; refused, nothing changed
--   Encodes    refused by `stripe_rules`, and `Written`
use Rattle.std.specs.Prelude.{◌≡◌, false, List, ℕ, ◌<◌, length, Result, Ok, Err, ⊤}
use Rattle.parity.specs.Stripe.{Valid}
use Rattle.parity.specs.Presence.{differs}
use Rattle.refusals.specs.declared.Refusal.{Refusal}
use Rattle.refusals.specs.Refusals.{verdict_of, Gives}
use Rattle.inputs.specs.Rules.{stripe_rules}

abbrev pub Written : ℕ → ℕ → ℕ → List ℕ → List ℕ → Result ⊤ Refusal → Type 0
Written m k b before after (Ok _) = Valid m k b after × ((t : ℕ) → t < k → differs m b before after t ≡ false)
Written m k b before after (Err f) = after ≡ before

pub record Encodes (m k b : ℕ) (before after : List ℕ) (r : Result ⊤ Refusal) : Type 0 where
  pub told : Gives (stripe_rules m k b (length before)) (verdict_of r)
  pub written : Written m k b before after r
