-- What check answers. It reads only.
--   rows_of, diagonals_of   the two counts of an answer: 0 where it is refused
--   found_of    the number of what was found; 0 where it is refused
--   Counted    the counts are those of the rows and of the numbers whose equation breaks, and the stripe is called intact, or blank, exactly when it is
--   Checks     refused by `stripe_rules`; passed: `Counted`
--   CountsSay  what is said of two counts of a stripe that is not blank
use Rattle.std.specs.Prelude.{◌≡◌, ◌↔◌, List, ℕ, length, Result, Ok, Err}
use Rattle.parity.specs.Stripe.{broken_rows, broken_diagonals, Blank, Intact}
use Rattle.counting.specs.declared.Counts.{Counts}
use Rattle.checking.specs.declared.checks.Checked.{Checked}
use Rattle.checking.specs.declared.checks.Checked.TheVariants as checked
use Rattle.refusals.specs.declared.Refusal.{Refusal}
use Rattle.refusals.specs.Refusals.{pass, verdict_of, Gives}
use Rattle.inputs.specs.Rules.{stripe_rules}

abbrev pub rows_of : Result Checked Refusal → ℕ
rows_of (Ok checked.Intact) = 0
rows_of (Ok checked.Blank) = 0
rows_of (Ok (checked.Broken rows diagonals)) = rows
rows_of (Err f) = 0

abbrev pub diagonals_of : Result Checked Refusal → ℕ
diagonals_of (Ok checked.Intact) = 0
diagonals_of (Ok checked.Blank) = 0
diagonals_of (Ok (checked.Broken rows diagonals)) = diagonals
diagonals_of (Err f) = 0

-- locate, which counts nothing, has 4 for a column
abbrev pub found_of : Result Checked Refusal → ℕ
found_of (Ok checked.Intact) = 1
found_of (Ok checked.Blank) = 2
found_of (Ok (checked.Broken rows diagonals)) = 3
found_of (Err f) = 0

pub record Counted (m k b : ℕ) (s : List ℕ) (r : Result Checked Refusal) : Type 0 where
  pub rows : rows_of r ≡ broken_rows m k b s
  pub diagonals : diagonals_of r ≡ broken_diagonals m k b s
  pub intact : (r ≡ Ok checked.Intact) ↔ Intact m k b s
  pub blank : (r ≡ Ok checked.Blank) ↔ Blank m k b s

pub record Checks (m k b : ℕ) (s : List ℕ) (r : Result Checked Refusal) : Type 0 where
  pub told : Gives (stripe_rules m k b (length s)) (verdict_of r)
  pub counted : verdict_of r ≡ pass → Counted m k b s r

pub record CountsSay (c : Counts) (r : Checked) : Type 0 where
  pub rows : rows_of (Ok r) ≡ c.rows
  pub diagonals : diagonals_of (Ok r) ≡ c.diagonals
  pub intact : (r ≡ checked.Intact) ↔ ((c.rows ≡ 0) × (c.diagonals ≡ 0))
  pub blank : r ≡ checked.Blank → ⊥
