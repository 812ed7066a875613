-- `restoring::put_diagonals` meets its contract: each begins with the diagonal that was put last.
use mathlib.Core.Path.{ap₂}
use Prim.Native.Nat.{◌+◌, ◌%◌}
use Rattle.parity.specs.Xor.{◌⊕◌}
use Rattle.restoring.proofs.Steps.{whole_lines, band_last, band_cells, diagonal_left_lem}
use Rattle.restoring.proofs.Bench.{lined_after}
use native.Mathlib.Omega.{arith}
use Rattle.restoring.proofs.put_diagonals.Goals as goal

pub sum_cells-requires : goal.sum_cells-requires
sum_cells-requires c =
    let a = c.args in
    (band_cells c.requires.2 c.put_diagonal.ensures.size, whole_lines a.g a.u a.v a.s.now c.all_but.ensures c.requires.2.laid (omega arith) c.requires.1)

pub returns : goal.returns
returns c =
    let a = c.args in
    let p = c.put_diagonal.ensures in
    lined_after p.size c.sum_cells.ensures p (λ r l hr hl.
    ap₂ ◌⊕◌ (p.inside l hl) (diagonal_left_lem a.g a.u a.v a.s.now ((r + a.shift) % a.g.m) l c.all_but.ensures))
    (omega (arith, band_last c.requires.2, c.requires.2.room))
