-- `report::writing::put_answer` meets its contract: the word, and then the number.
use Rattle.text.proofs.Writing.{wrote_then}
use native.Mathlib.Omega.{arith}
use Rattle.report.proofs.writing.put_answer.Goals as goal

pub returns : goal.returns
returns c =
    (wrote_then c.put_word-next.ensures c.put_field.ensures.0, omega (arith, c.put_word-next.ensures.ends, c.put_field.ensures.1))
