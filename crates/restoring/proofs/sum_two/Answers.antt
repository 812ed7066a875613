-- `restoring::sum_two` meets its contract: each half is lent and summed.
use Rattle.restoring.proofs.Bench.{half_whole, lent_lined}
use Rattle.restoring.proofs.Steps.{half_cells, both_summed}
use Rattle.lines.proofs.Lines.{column_is}
use native.Mathlib.Omega.{arith}
use Rattle.restoring.proofs.sum_two.Goals as goal

pub sum_lines-requires : goal.sum_lines-requires
sum_lines-requires c =
    let p = c.requires in
    (half_cells p.laid (half_whole c.args.bench.now 0 c.args.g.column (omega arith) (omega (arith, p.bench)) (omega arith)), record { laid = p.laid; slant = omega arith; shift = omega (arith, p.laid.sized.big); order = p.order; most = p.most; group = p.group })

pub sum_lines-requires-2 : goal.sum_lines-requires-2
sum_lines-requires-2 c =
    let p = c.requires in
    let a = c.args in
    let q = lent_lined a.bench.now c.sum_lines.new.w 0 a.g.column (omega arith) (omega (arith, p.bench)) (omega (arith, column_is a.g.m a.g.b a.g.column p.laid.sized)) c.sum_lines.ensures in
    (half_cells p.laid (half_whole _ a.g.column _ (omega arith) (omega (arith, p.bench, q.size)) (omega arith)), record { laid = p.laid; slant = omega arith; shift = p.shift; order = p.order; most = p.most; group = p.group })

pub returns : goal.returns
returns c =
    let a = c.args in
    both_summed a.g a.s.now a.shift a.columns a.bench.now c.sum_lines.new.w c.sum_lines-2.new.w (record { laid = c.requires.laid; bench = c.requires.bench }) c.sum_lines.ensures c.sum_lines-2.ensures
