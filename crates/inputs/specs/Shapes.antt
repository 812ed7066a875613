-- The shape check.
--   good_column m b r    what is handed out is the bytes of a column
--   Judges m k b r   what it says of three numbers: the bytes of a column, or the refusal
use Rattle.std.specs.Prelude.{◌≡◌, ℕ, Result, IfOk}
use Rattle.parity.specs.Shape.{column_length}
use Rattle.refusals.specs.declared.Refusal.{Refusal}
use Rattle.refusals.specs.Refusals.{verdict_of, Gives}
use Rattle.inputs.specs.Rules.{shape_rules}

abbrev pub good_column : ℕ → ℕ → Result ℕ Refusal → Type 0
good_column m b r = IfOk r (λ c. c ≡ column_length m b)

pub record Judges (m k b : ℕ) (r : Result ℕ Refusal) : Type 0 where
  pub told : Gives (shape_rules m k b) (verdict_of r)
  pub column : good_column m b r
