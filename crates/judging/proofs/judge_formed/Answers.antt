-- `judging::judge_formed` meets its contract: each way out is one of its rules, and the last is the judgement in parts of the right lengths.
use mathlib.Core.Path.{refl}
use Prim.Native.Nat.{◌+◌, ◌*◌, ◌-◌}
use Rattle.parity.specs.Shape.{column_length, stripe_length, bench_length}
use Rattle.inputs.proofs.ShapeLaws.{column_most, places_most, parts_most}
use Rattle.judging.proofs.Judged.{formed_good, formed_absent, part_size, formed_ambiguous, formed_stripe, formed_bench, formed_lent}
use native.Mathlib.Omega.{arith}
use Rattle.judging.proofs.judge_formed.Goals as goal

pub overflow_add-columns : goal.overflow_add-columns
overflow_add-columns c = omega (arith, places_most (formed_good c.requires).shape)

pub overflow_sub-absent : goal.overflow_sub-absent
overflow_sub-absent c = omega (arith, (formed_absent c.requires).0)

pub returns-then-absent-gt2 : goal.returns-then-absent-gt2
unfolding stripe_length bench_length column_length
returns-then-absent-gt2 c =
    formed_ambiguous (omega (arith, (formed_absent c.requires).1))

pub overflow_sub-column : goal.overflow_sub-column
overflow_sub-column c =
    let s = (formed_good c.requires).shape in omega (arith, s.few, s.real)

pub overflow_mul-column : goal.overflow_mul-column
unfolding stripe_length bench_length column_length
overflow_mul-column c =
    omega (arith, column_most (formed_good c.requires).shape)

pub overflow_mul-size : goal.overflow_mul-size
unfolding stripe_length bench_length column_length
overflow_mul-size c =
    omega (arith, parts_most (formed_good c.requires).shape refl (c.args.shape.k + 2) (places_most (formed_good c.requires).shape))

pub overflow_mul-double : goal.overflow_mul-double
unfolding stripe_length bench_length column_length
overflow_mul-double c =
    omega (arith, column_most (formed_good c.requires).shape)

pub returns-then-stripe-size : goal.returns-then-stripe-size
unfolding stripe_length bench_length column_length
returns-then-stripe-size c =
    formed_stripe (omega (arith, (formed_absent c.requires).1)) c.if-stripe-size.true

pub returns-then-bench-double : goal.returns-then-bench-double
unfolding stripe_length bench_length column_length
returns-then-bench-double c =
    formed_bench (omega (arith, (formed_absent c.requires).1)) (omega arith) (omega arith)

pub judge_parts-requires : goal.judge_parts-requires
unfolding stripe_length bench_length column_length
judge_parts-requires c =
    let a = c.args in
    let column = (a.shape.m - 1) * a.shape.b in
    (c.requires, omega (arith, (formed_absent c.requires).1), part_size ((a.shape.k + 2) * column) a.stripe.now (omega arith), part_size (2 * column) a.bench.now (omega arith))

pub returns : goal.returns
unfolding stripe_length bench_length column_length
returns c =
    let a = c.args in
    let column = (a.shape.m - 1) * a.shape.b in
    formed_lent (omega (arith, (formed_absent c.requires).1)) (omega arith) (omega arith) _ _ ((a.shape.k + 2) * column) (2 * column) refl refl _ c.judge_parts.ensures
