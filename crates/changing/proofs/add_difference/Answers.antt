-- `changing::add_difference` meets its contract: the cell, and then H's cell in its row.
use mathlib.Core.Path.{refl}
use native.Mathlib.Omega.{arith}
use Rattle.cells.proofs.Parts.{parts_end}
use Rattle.changing.proofs.Changed.{row_within, column_within}
use Rattle.changing.proofs.add_difference.Goals as goal

pub overflow_mul-row : goal.overflow_mul-row
overflow_mul-row c = omega (arith, row_within c.requires.0 c.args.i c.requires.2, column_within c.requires.0 c.args.g.k (omega arith))

pub overflow_mul-at : goal.overflow_mul-at
overflow_mul-at c = omega (arith, column_within c.requires.0 c.args.t (omega (arith, c.requires.1)))

pub overflow_add-at : goal.overflow_add-at
overflow_add-at c = omega (arith, row_within c.requires.0 c.args.i c.requires.2, column_within c.requires.0 c.args.t (omega (arith, c.requires.1)))

pub add_run-requires : goal.add_run-requires
add_run-requires c =
    (omega (arith, row_within c.requires.0 c.args.i c.requires.2, column_within c.requires.0 c.args.t (omega (arith, c.requires.1))), omega (arith, c.requires.3))

pub overflow_mul-g : goal.overflow_mul-g
overflow_mul-g c = omega (arith, column_within c.requires.0 c.args.g.k (omega arith))

pub overflow_add-g : goal.overflow_add-g
overflow_add-g c = omega (arith, row_within c.requires.0 c.args.i c.requires.2, column_within c.requires.0 c.args.g.k (omega arith))

pub add_within-requires : goal.add_within-requires
add_within-requires c =
    let row = row_within c.requires.0 c.args.i c.requires.2 in
    let size = c.add_run.ensures.size in
    (omega (arith, row, column_within c.requires.0 c.args.g.k (omega arith), size), omega (arith, row, column_within c.requires.0 c.args.t (omega (arith, c.requires.1)), size), λ less. omega (arith, row, parts_end c.args.g.column c.requires.1))

pub returns : goal.returns
returns c = (refl, record { between = c.add_run.new.w; first = c.add_run.ensures; second = c.add_within.ensures })
