-- What rewrite answers and leaves. It is told a column.
--   column_rules    7, 5: what is asked of the column
--   rewrite_rules   1, 12, 13, 2, 7, 5
--   Left           what is left: done, a valid stripe that has every other column as it was; refused, nothing changed
--   Rewrites       refused by `rewrite_rules`, and `Left`
use Rattle.std.specs.Prelude.{◌≡◌, List, [], ◌∷◌, ◌++◌, ℕ, length, Result, Ok, Err, ⊤}
use Rattle.parity.specs.Stripe.{Valid}
use Rattle.parity.specs.Presence.{AgreesBut}
use Rattle.refusals.specs.declared.Refusal.{Refusal}
use Rattle.refusals.specs.Refusals.{verdict_of, Rule, Gives}
use Rattle.inputs.specs.Rules.{no_such_column, contradicted_but, stripe_rules}

abbrev pub column_rules : ℕ → ℕ → ℕ → ℕ → List ℕ → List Rule
column_rules m k b column s = no_such_column k column ∷ contradicted_but m k b column s ∷ []

abbrev pub rewrite_rules : ℕ → ℕ → ℕ → ℕ → List ℕ → List Rule
rewrite_rules m k b column s = stripe_rules m k b (length s) ++ column_rules m k b column s

abbrev pub Left : ℕ → ℕ → ℕ → ℕ → List ℕ → List ℕ → Result ⊤ Refusal → Type 0
Left m k b column before after (Ok _) = Valid m k b after × AgreesBut m k b column before after
Left m k b column before after (Err f) = after ≡ before

pub record Rewrites (m k b column : ℕ) (before after : List ℕ) (r : Result ⊤ Refusal) : Type 0 where
  pub told : Gives (rewrite_rules m k b column before) (verdict_of r)
  pub left : Left m k b column before after r
