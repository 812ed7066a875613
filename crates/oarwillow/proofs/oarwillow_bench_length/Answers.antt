-- `oarwillow::oarwillow_bench_length` meets its contract: the shape check of m, one data column and b gives the bytes of a column, and a bench is two.
use mathlib.Core.Path.{◌≡◌, refl, ap}
use Prim.Native.Nat.{ℕ, ◌*◌}
use native.Mathlib.Omega.{arith}
use Rattle.parity.specs.Shape.{Shape, column_length, bench_length}
use Rattle.inputs.proofs.ShapeLaws.{parts_most, judged_good}
use Rattle.oarwillow.proofs.Lengths.{no_shape, bench_shape}
use Rattle.oarwillow.proofs.oarwillow_bench_length.Goals as goal
use Rattle.oarwillow.proofs.oarwillow_bench_length.Goals.{In-Ok}

good : (c : In-Ok) → Shape c.args.m 1 c.args.b × (c.in-Ok.column ≡ column_length c.args.m c.args.b)
good c = judged_good _ _ _ c.in-Ok.ensures

pub overflow_mul-result : goal.overflow_mul-result
overflow_mul-result c =
    let (s, e) = good c in omega (arith, parts_most s e 2 (omega arith))

pub returns-in-Ok : goal.returns-in-Ok
unfolding bench_length
returns-in-Ok c =
    let (s, e) = good c in record { good = λ _. ap (λ (n : ℕ). 2 * n) e; bad = λ no. absurd (no (s.value, s.filled, s.short)) }

pub returns-in-Err : goal.returns-in-Err
returns-in-Err c = record { good = λ h. absurd (no_shape _ _ _ c.in-Err.ensures (bench_shape _ _ h)); bad = λ _. refl }
