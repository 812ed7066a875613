-- `sums::sum_line` meets its contract. The invariant: the columns below t are summed.
use mathlib.Core.Path.{◌≡◌, subst}
use Prim.Native.Nat.{◌+◌}
use lib.ListN.{get_or}
use Rattle.parity.specs.Xor.{◌⊕◌}
use Rattle.cells.specs.Runs.{Put}
use Rattle.lines.specs.declared.Columns.{Columns}
use Rattle.sums.specs.Sums.{begun, window_of}
use Rattle.sums.proofs.Sweeps.{InCell, in_cell_next, over, over_join, all_of}
use native.Mathlib.Omega.{arith}
use Rattle.sums.proofs.sum_line.Goals as goal
use Rattle.sums.proofs.sum_line.Goals.{After-fill_line}

summed : (c : After-fill_line) → let a = c.args in
    InCell a.g.b a.seed a.to (λ x y l. window_of a.g a.s.now a.slant a.i (over a.g a.s.now a.slant a.columns.u a.columns.v x y) l) a.w.now c.fill_line.new.w c.min.result
summed c =
    let a = c.args in
    let y = c.loop-t in
    in_cell_next a.g.b a.seed a.to _ (over_join a.g a.s.now a.slant a.columns.u a.columns.v a.i) a.w.now y.w c.fill_line.new.w
    (over a.g a.s.now a.slant a.columns.u a.columns.v y.t c.min.result) (omega arith) y.invariant.1
    (subst (λ (x : Columns). Put y.w c.fill_line.new.w a.to a.g.b (λ l. begun x y.w a.seed a.to l ⊕ window_of a.g a.s.now a.slant a.i x l)) c.part_of-group.ensures c.fill_line.ensures)

pub loop-t-preserved : goal.loop-t-preserved
loop-t-preserved c =
    let e : c.min.result ≡ c.loop-t.t + 8 = omega arith in
    (omega arith, rw (← e) (summed (goal.at.loop-t-preserved c).After-fill_line))

pub returns-2 : goal.returns-2
returns-2 c =
    let a = c.args in
    let done = summed (goal.at.returns-2 c).After-fill_line in
    subst (λ (x : Columns). Put a.w.now c.fill_line.new.w a.to a.g.b (λ l. get_or a.w.now (a.seed + l) 0 ⊕ window_of a.g a.s.now a.slant a.i x l))
    (all_of a.columns c.requires.first (omega arith)) (done.some (λ z. absurd (omega arith)))
