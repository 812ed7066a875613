-- `restoring::restore_one` meets its contract: all rows are restored to the first half.
use Rattle.restoring.proofs.Steps.{half_band}
use Rattle.restoring.proofs.Bench.{one_restored, half_whole}
use native.Mathlib.Omega.{arith}
use Rattle.restoring.proofs.restore_one.Goals as goal

pub restore_rows-requires : goal.restore_rows-requires
restore_rows-requires c =
    let a = c.args in
    (c.requires.2, omega arith, half_band c.requires.0 (half_whole a.bench.now 0 a.g.column (omega arith) c.requires.1 (omega arith)))

pub returns : goal.returns
returns c =
    let a = c.args in
    one_restored a.g.m a.g.k a.g.b a.bench.now c.restore_rows.new.w c.requires.0.sized.column c.requires.1 c.restore_rows.ensures
