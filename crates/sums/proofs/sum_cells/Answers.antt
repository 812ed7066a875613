-- `sums::sum_cells` meets its contract. The invariant: the columns below t are summed.
use mathlib.Core.Path.{◌≡◌, subst}
use Prim.Native.Nat.{◌+◌, ◌*◌, ◌%◌}
use lib.ListN.{get_or}
use Rattle.parity.specs.Xor.{◌⊕◌}
use Rattle.lines.specs.declared.Columns.{Columns}
use Rattle.lines.specs.Rows.{Lined}
use Rattle.sums.specs.Sums.{begun, window_of}
use Rattle.sums.proofs.Sweeps.{InCells, in_cells_next, over, over_join, all_of}
use native.Mathlib.Omega.{arith}
use Rattle.sums.proofs.sum_cells.Goals as goal
use Rattle.sums.proofs.sum_cells.Goals.{After-sum_lines}

summed : (c : After-sum_lines) → let a = c.args in
    InCells a.n a.g.b a.seed (λ x y r l. window_of a.g a.s.now a.slant ((r + a.shift) % a.g.m) (over a.g a.s.now a.slant a.columns.u a.columns.v x y) l) a.w.now c.sum_lines.new.w c.min.result
summed c =
    let a = c.args in
    let y = c.loop-t in
    in_cells_next a.n a.g.b a.seed _ (λ r. over_join a.g a.s.now a.slant a.columns.u a.columns.v ((r + a.shift) % a.g.m)) a.w.now y.w c.sum_lines.new.w
    (over a.g a.s.now a.slant a.columns.u a.columns.v y.t c.min.result) (omega arith) y.invariant.1
    (subst (λ (x : Columns). Lined a.n a.g.b 0 y.w c.sum_lines.new.w (λ r l. begun x y.w a.seed (r * a.g.b) l ⊕ window_of a.g a.s.now a.slant ((r + a.shift) % a.g.m) x l)) c.part_of-group.ensures c.sum_lines.ensures)

pub loop-t-preserved : goal.loop-t-preserved
loop-t-preserved c =
    let e : c.min.result ≡ c.loop-t.t + 8 = omega arith in
    (omega arith, rw (← e) (summed (goal.at.loop-t-preserved c).After-sum_lines))

pub returns-2 : goal.returns-2
returns-2 c =
    let a = c.args in
    let done = summed (goal.at.returns-2 c).After-sum_lines in
    subst (λ (x : Columns). Lined a.n a.g.b 0 a.w.now c.sum_lines.new.w (λ r l. get_or a.w.now (a.seed + l) 0 ⊕ window_of a.g a.s.now a.slant ((r + a.shift) % a.g.m) x l))
    (all_of a.columns c.requires.1.first (omega arith)) (done.some (λ z. absurd (omega arith)))
