-- `counting::long::grow_lines` meets its contract. The invariant: the cells before r have their pieces.
use Prim.Native.Nat.{◌+◌}
use Rattle.cells.proofs.Parts.{parts_end}
use Rattle.sums.proofs.Sweeps.{cells_next}
use Rattle.counting.specs.Counting.{piece_of}
use native.Mathlib.Omega.{arith}
use Rattle.counting.proofs.long.grow_lines.Goals as goal

pub loop-r-preserved : goal.loop-r-preserved
loop-r-preserved c =
    let a = c.args in
    let y = c.loop-r in
    let f = c.grow_line in (
      omega arith,
      omega (arith, y.invariant.1, f.auto),
      cells_next a.columns a.g.b a.seed y.r a.w.now y.w f.new.w (λ r l. piece_of a.g a.s.now (a.d + r) a.columns l)
          (omega (arith, c.requires.2.before, parts_end a.g.b c.loop-r-test.true)) y.invariant.2 f.ensures,
    )
