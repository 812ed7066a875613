-- `report::telling::put_complete` meets its contract: the shape, the columns and the answer's line, one after another; the parts that are lent have the lengths that the shape asks for.
use mathlib.Core.Path.{refl}
use Prim.Native.Nat.{◌+◌, ◌*◌, ◌-◌}
use Rattle.parity.specs.Shape.{column_length, stripe_length, bench_length}
use Rattle.inputs.proofs.ShapeLaws.{column_most, places_most, parts_most}
use Rattle.text.proofs.Writing.{wrote_then, wrote_same}
use Rattle.report.proofs.Told.{held_lent, text_lent}
use native.Mathlib.Omega.{arith}
use Rattle.report.proofs.telling.put_complete.Goals as goal

pub overflow_mul-column : goal.overflow_mul-column
unfolding stripe_length bench_length column_length
overflow_mul-column c = omega (arith, column_most c.requires.held.shape)

pub overflow_mul-size : goal.overflow_mul-size
unfolding stripe_length bench_length column_length
overflow_mul-size c =
    let s = c.requires.held.shape in omega (arith, parts_most s refl (c.args.shape.k + 2) (places_most s))

pub overflow_mul-double : goal.overflow_mul-double
unfolding stripe_length bench_length column_length
overflow_mul-double c = omega (arith, column_most c.requires.held.shape)

pub slice_bounds-columns-end : goal.slice_bounds-columns-end
unfolding stripe_length bench_length column_length
slice_bounds-columns-end c = c.requires.long

pub slice_bounds-columns-end-2 : goal.slice_bounds-columns-end-2
unfolding stripe_length bench_length column_length
slice_bounds-columns-end-2 c = c.requires.spare

pub invariant_of-columns : goal.invariant_of-columns
unfolding stripe_length bench_length column_length
invariant_of-columns c =
    let a = c.args in
    let column = (a.shape.m - 1) * a.shape.b in
    record { held = held_lent a.shape a.map a.stripe.now a.bench.now ((a.shape.k + 2) * column) (2 * column) refl refl c.requires.held }

pub returns : goal.returns
unfolding stripe_length bench_length column_length
returns c =
    let a = c.args in
    let column = (a.shape.m - 1) * a.shape.b in
    let p = c.requires in
    let first = c.put_shape-next.ensures in
    let second = c.put_columns-last.ensures in
    let third = c.put_done.ensures in
    (wrote_same (wrote_then (wrote_then first.0 second.0) third.0) (text_lent a.shape a.map a.stripe.now a.bench.now ((a.shape.k + 2) * column) (2 * column) refl refl a.blank), omega (arith, p.fits, first.1, second.1, third.1))
