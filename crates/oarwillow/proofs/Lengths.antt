-- What the shape check says, as the two lengths need it.
--   no_shape      where it refuses, the three numbers are no shape
--   bench_shape   with one data column the numbers of a bench are a shape's
use Prim.Native.Nat.{ℕ, ◌≤◌}
use native.Mathlib.Omega.{arith}
use Rattle.std.specs.Prelude.{Err}
use Rattle.parity.specs.Shape.{OddPrime, Shape}
use Rattle.refusals.specs.declared.Refusal.{Refusal}
use Rattle.inputs.specs.Rules.{shape_rules}
use Rattle.inputs.specs.Shapes.{Judges}
use Rattle.refusals.proofs.Rules.{passes_not, gives_one}
use Rattle.inputs.proofs.ShapeLaws.{shape_passes}

pub no_shape : (m k b : ℕ) {f : Refusal} → Judges m k b (Err f) → Shape m k b → ⊥
no_shape m k b {f} h s = passes_not f (gives_one (shape_rules m k b) _ _ (shape_passes m k b s) h.told)

pub bench_shape : (m b : ℕ) → OddPrime m × (1 ≤ b) × (b ≤ 4096) → Shape m 1 b
bench_shape m b (value, filled, short) =
    record { value = value; real = omega arith; few = let l = value.prime.big in omega arith; filled = filled; short = short }
