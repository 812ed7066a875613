-- `changing::pay` meets its contract. The invariant: the first i cells of D are paid.
use Prim.Native.Nat.{◌+◌, ◌*◌}
use native.Mathlib.Omega.{arith}
use lib.ListN.{get_or}
use borrow.Author.Rules.{rules}
use Rattle.lines.proofs.Rows.{lined_none, lined_count, grown_more}
use Rattle.changing.proofs.Changed.{row_within, column_within}
use Rattle.changing.proofs.Owed.{paid_all}
use Rattle.changing.proofs.many_cells.pay.Goals as goal

pub overflow_mul-d : goal.overflow_mul-d
overflow_mul-d c = omega (arith, column_within c.requires.0 c.args.g.k (omega arith))

pub overflow_add-d : goal.overflow_add-d
overflow_add-d c = omega (arith, column_within c.requires.0 c.args.g.k (omega arith))

pub loop-i-init : goal.loop-i-init
loop-i-init c =
    let a = c.args in
    (omega arith, lined_none a.g.b (a.g.k * a.g.column + a.g.column) a.s.now _)

pub overflow_mul-i : goal.overflow_mul-i
overflow_mul-i c =
    omega (arith, row_within c.requires.0 c.loop-i.i (omega (arith, c.loop-i-test.true)), column_within c.requires.0 (c.args.g.k + 1) (omega arith))

pub overflow_add-d-in-loop-i : goal.overflow_add-d-in-loop-i
overflow_add-d-in-loop-i c =
    omega (arith, row_within c.requires.0 c.loop-i.i (omega (arith, c.loop-i-test.true)), column_within c.requires.0 (c.args.g.k + 1) (omega arith))

pub add_run-requires : goal.add_run-requires
add_run-requires c =
    let y = c.loop-i in
    (omega (arith, y.invariant.1.size, row_within c.requires.0 y.i (omega (arith, c.loop-i-test.true)), column_within c.requires.0 (c.args.g.k + 1) (omega arith)), omega (arith, c.requires.1))

pub loop-i-preserved : goal.loop-i-preserved
loop-i-preserved c =
    let a = c.args in
    let y = c.loop-i in
    let q = c.add_run in
    (search rules, grown_more y.i a.g.b (a.g.k * a.g.column + a.g.column) a.s.now y.s q.new.w (λ r l. get_or a.owed.now (0 + l) 0) y.invariant.1 q.ensures)

pub shape_of-s : goal.shape_of-s
shape_of-s c = c.loop-i.invariant.1.size

pub returns : goal.returns
returns c = let y = c.loop-i in paid_all c.requires.0 (lined_count y.invariant.1 (omega (arith, y.invariant.0, c.loop-i-test.false)))
