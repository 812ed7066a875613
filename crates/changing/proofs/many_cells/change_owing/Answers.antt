-- `changing::change_owing` meets its contract: the four steps of `changed_owing`.
use mathlib.Core.Path.{refl, ap, ◌∙◌}
use Prim.Native.Nat.{ℕ, ◌+◌, ◌*◌}
use lib.ListN.{get_or}
use Rattle.cells.proofs.Parts.{part_at}
use Rattle.cells.proofs.Puts.{added_same}
use Rattle.changing.proofs.Changed.{row_within, column_within, copied, changed_owing}
use native.Mathlib.Omega.{arith}
use Rattle.changing.proofs.many_cells.change_owing.Goals as goal

pub slice_bounds-xor_into-end : goal.slice_bounds-xor_into-end
slice_bounds-xor_into-end c =
    let (place, d) = c.add_difference-at.ensures in
    let size = d.second.size ∙ d.first.size in
    omega (arith, size, row_within c.requires.0 c.args.i c.requires.3, column_within c.requires.0 c.args.t (omega (arith, c.requires.2)))

pub returns : goal.returns
returns c =
    let a = c.args in
    let g = a.g in
    let w = c.add_difference-at.new.s in
    let (place, d) = c.add_difference-at.ensures in
    let size = d.second.size ∙ d.first.size in
    let there = c.add_difference-at.result in
    rw place (changed_owing c.requires.0.sized g.k a.t a.i a.s.now _ a.cell.now c.requires.0.few c.requires.2 c.requires.3 d.between w w
    d.first d.second (λ p h. refl)
    (copied w _ a.cell.now (a.t * g.column + a.i * g.b) g.b (omega (arith, size, row_within c.requires.0 a.i c.requires.3, column_within c.requires.0 a.t (omega (arith, c.requires.2)))) c.requires.5 c.copy_into.ensures)
    c.requires.4 a.owed.now c.xor_into.new.acc refl c.requires.1
    (added_same c.xor_into.ensures (λ l h. part_at w there (there + g.b) l (omega (arith, c.requires.1)) ∙ ap (λ (x : ℕ). get_or w (x + l) 0) place)))
