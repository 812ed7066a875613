-- `walk::step` meets its contract: from a real row both additions are made at once, from row m - 1 the second alone.
use Rattle.walk.proofs.Steps.{row_end, row_before, step_real, step_last}
use native.Mathlib.Omega.{arith}
use Rattle.walk.proofs.step.Goals as goal

pub overflow_mul-first : goal.overflow_mul-first
overflow_mul-first c = let q = row_end c.requires.1 c.requires.2 in omega arith

pub overflow_add-second : goal.overflow_add-second
overflow_add-second c = let q = row_end c.requires.1 c.requires.2 in omega arith

pub overflow_mul-from : goal.overflow_mul-from
overflow_mul-from c = let q = row_end c.requires.1 c.if-from-m.true in omega arith

pub add_through-requires : goal.add_through-requires
add_through-requires c =
    let p = row_end c.requires.1 c.if-from-m.true in
    let q = row_end c.requires.1 c.requires.2 in
    (omega arith, omega arith, omega arith, row_before _ _ _)

pub add_within-requires : goal.add_within-requires
add_within-requires c =
    let q = row_end c.requires.1 c.requires.2 in
    (omega arith, omega arith, λ h. omega arith)

pub shape_of-w-then-from-m : goal.shape_of-w-then-from-m
shape_of-w-then-from-m c = omega (arith, c.add_through.ensures.first.size, c.add_through.ensures.second.size)

pub returns-then-from-m : goal.returns-then-from-m
returns-then-from-m c =
    let a = c.args in
    step_real a.g.m a.g.b a.from a.to c.requires.2 (omega arith) (omega (arith, c.requires.1.column)) c.if-from-m.true (omega arith) c.add_through.ensures

pub returns-else-from-m : goal.returns-else-from-m
returns-else-from-m c =
    let a = c.args in
    step_last a.g.m a.g.b a.from a.to c.requires.2 (omega arith) (omega (arith, c.requires.1.column)) c.if-from-m.false c.add_within.ensures
