-- `changing::change_on_s` meets its contract: the four steps of `changed_on_s`.
use mathlib.Core.Path.{◌∙◌}
use mathlib.Core.Logic.{inl}
use Prim.Native.Nat.{◌+◌, ◌*◌}
use Rattle.cells.proofs.Parts.{parts_end}
use Rattle.lines.proofs.Lines.{column_is}
use Rattle.changing.proofs.Changed.{row_within, column_within, copied, changed_on_s}
use native.Mathlib.Omega.{arith}
use Rattle.changing.proofs.change_on_s.Goals as goal

pub add_to_each-requires : goal.add_to_each-requires
add_to_each-requires c =
    let g = c.args.g in
    let (place, d) = c.add_difference-at.ensures in
    let row = row_within c.requires.0 c.args.i c.requires.2 in
    let size = d.second.size ∙ d.first.size in (
      omega (arith, column_within c.requires.0 (c.args.g.k + 1) (omega arith), column_is g.m g.b g.column c.requires.0.sized, size),
      omega (arith, row, column_within c.requires.0 c.args.t (omega (arith, c.requires.1)), size),
      inl (omega (arith, row, parts_end g.column c.requires.1)),
    )

pub slice_bounds-copy_into-end : goal.slice_bounds-copy_into-end
slice_bounds-copy_into-end c =
    let (place, d) = c.add_difference-at.ensures in
    let size = c.add_to_each.ensures.size ∙ d.second.size ∙ d.first.size in
    omega (arith, size, row_within c.requires.0 c.args.i c.requires.2, column_within c.requires.0 c.args.t (omega (arith, c.requires.1)))

pub returns : goal.returns
returns c =
    let a = c.args in
    let g = a.g in
    let w = c.add_to_each.new.w in
    let (place, d) = c.add_difference-at.ensures in
    let third = rw place at c.add_to_each.ensures in
    let size = third.size ∙ d.second.size ∙ d.first.size in
    rw place (changed_on_s c.requires.0.sized g.k a.t a.i a.s.now _ a.cell.now c.requires.0.few c.requires.1 c.requires.2 d.between c.add_difference-at.new.s w
    d.first d.second third.before
    (copied w _ a.cell.now (a.t * g.column + a.i * g.b) g.b (omega (arith, size, row_within c.requires.0 a.i c.requires.2, column_within c.requires.0 a.t (omega (arith, c.requires.1)))) c.requires.4 c.copy_into.ensures)
    c.requires.3 third)
