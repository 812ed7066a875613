-- `sums::lines_by_cells` meets its contract. The invariant: the cells before r have their lines, and i is the line of cell r.
use mathlib.Core.Path.{ap, ◌∙◌}
use Prim.Native.Nat.{ℕ, ◌+◌, ◌*◌, ◌%◌}
use Rattle.parity.specs.Xor.{◌⊕◌}
use Rattle.cells.proofs.Parts.{parts_end}
use Rattle.cells.proofs.Puts.{put_same}
use Rattle.sums.specs.Sums.{begun, window_of}
use Rattle.sums.proofs.Sweeps.{line_next, cells_next}
use native.Mathlib.Omega.{arith}
use Rattle.sums.proofs.lines_by_cells.Goals as goal

pub loop-r-preserved : goal.loop-r-preserved
loop-r-preserved c =
    let a = c.args in
    let y = c.loop-r in
    let f = c.fill_line in
    let end = parts_end a.g.b c.loop-r-test.true in (
      omega arith,
      c.row_below-i.ensures ∙ ap (λ (x : ℕ). (x + 1) % a.g.m) y.invariant.1 ∙ line_next a.g.m y.r a.shift,
      cells_next a.columns a.g.b a.seed y.r a.w.now y.w f.new.w (λ r l. window_of a.g a.s.now a.slant ((r + a.shift) % a.g.m) a.columns l)
          (omega (arith, end, c.requires.0.before)) y.invariant.2
          (put_same f.ensures (λ l h. ap (λ (x : ℕ). begun a.columns y.w a.seed (y.r * a.g.b) l ⊕ window_of a.g a.s.now a.slant x a.columns l) y.invariant.1)),
    )
