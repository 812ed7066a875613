-- `report::telling::put_refused` meets its contract: one line, and then the other.
use Rattle.text.proofs.Writing.{wrote_then}
use native.Mathlib.Omega.{arith}
use Rattle.report.proofs.telling.put_refused.Goals as goal

pub returns : goal.returns
returns c =
    (wrote_then c.put_shape-next.ensures.0 (rw c.number.ensures at c.put_answer.ensures.0), omega arith)
