-- `report::writing::put_done` meets its contract: each arm writes its line.
use mathlib.Core.Path.{sym, ap}
use Rattle.text.specs.Text.{decimal}
use Rattle.report.specs.Lines.{done_line}
use Rattle.text.proofs.Writing.{wrote_same}
use native.Mathlib.Omega.{arith}
use Rattle.report.proofs.writing.put_done.Goals as goal

pub returns-then-blank : goal.returns-then-blank
unfolding decimal
returns-then-blank c =
    let w = c.put_word.ensures in (wrote_same w (ap done_line (sym c.if-blank.true)), omega (arith, w.ends))

pub returns-else-blank : goal.returns-else-blank
returns-else-blank c =
    let w = c.put_answer.ensures in (wrote_same w.0 (ap done_line (sym c.if-blank.false)), omega (arith, w.1))
