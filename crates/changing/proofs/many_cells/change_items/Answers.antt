-- `changing::change_items` meets its contract. The invariant: once paid, the first n items are changed.
use mathlib.Core.Path.{subst, ◌∙◌}
use Prim.Native.Nat.{ℕ}
use native.Mathlib.Omega.{arith}
use Rattle.parity.specs.Change.{CellsChanged}
use Rattle.parity.proofs.InOrder.{no_step}
use Rattle.cells.proofs.Parts.{part_size}
use Rattle.changing.specs.Owed.{OncePaid}
use Rattle.lines.proofs.Lines.{laid_kept}
use Rattle.changing.proofs.Items.{item_within, item_most, changed_next}
use Rattle.changing.proofs.Owed.{once_none}
use Rattle.changing.proofs.many_cells.change_items.Goals as goal

pub loop-n-init : goal.loop-n-init
loop-n-init c = once_none c.requires.0 c.args.owed.now _ (λ v. no_step _ v)

pub overflow_mul-at : goal.overflow_mul-at
overflow_mul-at c =
    omega (arith, item_most c.requires.2 c.requires.0 c.loop-n.n c.loop-n-test.true)

pub bounds-rows-n : goal.bounds-rows-n
bounds-rows-n c = omega (arith, c.requires.2.even, c.loop-n-test.true)

pub overflow_add-at : goal.overflow_add-at
overflow_add-at c =
    omega (arith, item_most c.requires.2 c.requires.0 c.loop-n.n c.loop-n-test.true)

pub slice_bounds-change_item-end : goal.slice_bounds-change_item-end
slice_bounds-change_item-end c =
    omega (arith, item_within c.requires.2 c.loop-n.n c.loop-n-test.true)

pub change_item-requires : goal.change_item-requires
change_item-requires c =
    let y = c.loop-n in
    let taken = c.loop-n-test.true in
    let (column, row) = c.requires.2.inside y.n taken in
    (laid_kept y.invariant.size c.requires.0, y.invariant.room ∙ c.requires.1, column, row, part_size c.args.cells.now _ c.args.g.b (omega (arith, item_within c.requires.2 y.n taken)))

pub loop-n-preserved : goal.loop-n-preserved
loop-n-preserved c =
    let a = c.args in
    let y = c.loop-n in
    changed_next (laid_kept y.invariant.size c.requires.0) a.columns.now a.rows.now a.cells.now y.n y.invariant c.change_item.ensures

pub returns : goal.returns
returns c =
    let a = c.args in
    let y = c.loop-n in
    subst (λ (n : ℕ). OncePaid a.g.m a.g.k a.g.b a.owed.now a.s.now y.owed y.s (CellsChanged a.g.m a.g.k a.g.b a.columns.now a.rows.now a.cells.now n))
    (omega (arith, c.loop-n-test.false)) y.invariant
