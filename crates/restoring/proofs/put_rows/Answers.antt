-- `restoring::put_rows` meets its contract: each begins with the last cell, which is cleared.
use mathlib.Core.Path.{ap₂, ◌∙◌}
use Prim.Native.Nat.{◌+◌, ◌*◌, ◌-◌, ◌%◌}
use lib.ListN.{length}
use Rattle.parity.specs.Xor.{◌⊕◌}
use Rattle.parity.proofs.Xor.{zero_⊕}
use Rattle.cells.proofs.Puts.{put_cleared}
use Rattle.restoring.specs.Left.{row_left}
use Rattle.restoring.proofs.Steps.{whole_lines, band_last, band_cells, row_left_lem}
use Rattle.restoring.proofs.Bench.{lined_after}
use native.Mathlib.Omega.{arith}
use Rattle.restoring.proofs.put_rows.Goals as goal

pub sum_cells-requires : goal.sum_cells-requires
sum_cells-requires c =
    let a = c.args in
    let e = band_last c.requires.1 in
    let p = put_cleared a.w.now c.zero.new.acc ((a.n - 1) * a.g.b) (length a.w.now) (omega arith) (omega arith) c.zero.ensures in
    (band_cells c.requires.1 p.size, whole_lines a.g a.u a.v a.s.now c.all_but.ensures c.requires.1.laid (omega arith) c.requires.0)

pub returns : goal.returns
returns c =
    let a = c.args in
    let e = band_last c.requires.1 in
    let p = put_cleared a.w.now c.zero.new.acc ((a.n - 1) * a.g.b) (length a.w.now) (omega arith) (omega arith) c.zero.ensures in
    lined_after p.size c.sum_cells.ensures p (λ r l hr hl.
    ap₂ ◌⊕◌ (p.inside l (omega arith)) (row_left_lem a.g a.u a.v a.s.now ((r + a.first) % a.g.m) l c.all_but.ensures)
    ∙ zero_⊕ (row_left a.g a.u a.v a.s.now ((r + a.first) % a.g.m) l))
    (omega (arith, c.requires.1.room))
