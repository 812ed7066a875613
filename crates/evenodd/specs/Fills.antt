-- What restore does once the numbers, lengths and map are right, and at most two columns are absent.
--   Gapped       all that is known then, with the absent columns' numbers
--   GapsFilled   the columns that are present fit, where they can be tested, and the absent ones were restored to the bench
--   FillsGaps    that; or, the columns that are present do not fit and nothing was written
use Rattle.std.specs.Prelude.{◌≡◌, Bool, true, false, List, ℕ, ◌+◌, ◌≤◌, ◌<◌, length}
use Rattle.parity.specs.Shape.{Shape, column_length, stripe_length, bench_length}
use Rattle.parity.specs.Candidate.{FitsBut}
use Rattle.lines.specs.declared.Grid.{Grid}
use Rattle.restoring.specs.Restoring.{OneRestored, TwoRestored}
use Rattle.maps.specs.declared.Gaps.{Gaps}

pub record Gapped (g : Grid) (gaps : Gaps) (s bench : List ℕ) : Type 0 where
  pub shape : Shape g.m g.k g.b
  pub column : g.column ≡ column_length g.m g.b
  pub stripe : length s ≡ stripe_length g.m g.k g.b
  pub held : length bench ≡ bench_length g.m g.b
  pub few : gaps.count ≤ 2
  pub one : gaps.count ≡ 1 → gaps.first < g.k + 2
  pub two : gaps.count ≡ 2 → (gaps.first < gaps.second) × (gaps.second < g.k + 2)

pub record GapsFilled (m k b : ℕ) (gaps : Gaps) (s before after : List ℕ) : Type 0 where
  pub fits : gaps.count ≤ 1 → FitsBut m k b gaps.first s
  pub none : gaps.count ≡ 0 → after ≡ before
  pub one : gaps.count ≡ 1 → OneRestored m k b gaps.first s before after
  pub two : gaps.count ≡ 2 → TwoRestored m k b gaps.first gaps.second s before after

abbrev pub FillsGaps : ℕ → ℕ → ℕ → Gaps → List ℕ → List ℕ → List ℕ → Bool → Type 0
FillsGaps m k b gaps s before after true = GapsFilled m k b gaps s before after
FillsGaps m k b gaps s before after false = (gaps.count ≤ 1) × (FitsBut m k b gaps.first s → ⊥) × (after ≡ before)
