-- The tests that the calls share. n is the length of a stripe, and w that of a bench.
--   JudgesStripe            three numbers and a stripe, by `stripe_rules`
--   JudgesMap               a map of k + 2 columns, by `map_rules`
--   JudgesLent              numbers, a stripe, a bench and a map, by `lent_rules`
--   JudgesGaps              these, and that at most two columns are absent, by `gap_rules`, with which they are
--   GoodGaps                what it gives: the bytes of a column, and the gaps below k + 2
use Rattle.std.specs.Prelude.{◌≡◌, ℕ, ◌+◌, Result, IfOk, ⊤}
use Rattle.parity.specs.Shape.{column_length}
use Rattle.maps.specs.declared.Gaps.{Gaps}
use Rattle.maps.specs.declared.Map.{Map}
use Rattle.refusals.specs.declared.Refusal.{Refusal}
use Rattle.refusals.specs.Refusals.{verdict_of, Gives}
use Rattle.inputs.specs.Rules.{stripe_rules, map_rules, lent_rules, gap_rules}
use Rattle.maps.specs.Absent.{Counts}
use Rattle.inputs.specs.Shapes.{good_column}

pub record JudgesStripe (m k b n : ℕ) (r : Result ℕ Refusal) : Type 0 where
  pub told : Gives (stripe_rules m k b n) (verdict_of r)
  pub column : good_column m b r

pub record JudgesMap (k : ℕ) (map : Map) (r : Result ⊤ Refusal) : Type 0 where
  pub told : Gives (map_rules k map) (verdict_of r)

pub record JudgesLent (m k b : ℕ) (map : Map) (n w : ℕ) (r : Result ℕ Refusal) : Type 0 where
  pub told : Gives (lent_rules m k b map n w) (verdict_of r)
  pub column : good_column m b r

abbrev pub GoodGaps : ℕ → ℕ → ℕ → Map → Result (ℕ × Gaps) Refusal → Type 0
GoodGaps m k b map r = IfOk r (λ x. (x.0 ≡ column_length m b) × Counts (k + 2) map.places x.1)

pub record JudgesGaps (m k b : ℕ) (map : Map) (n w : ℕ) (r : Result (ℕ × Gaps) Refusal) : Type 0 where
  pub told : Gives (gap_rules m k b map n w) (verdict_of r)
  pub good : GoodGaps m k b map r
