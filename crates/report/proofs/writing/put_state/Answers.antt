-- `report::writing::put_state` meets its contract: each arm writes the word of its state.
use mathlib.Core.Path.{sym, ap}
use Rattle.report.specs.Lines.{state_word}
use Rattle.text.proofs.Writing.{wrote_same}
use native.Mathlib.Omega.{arith}
use Rattle.report.proofs.writing.put_state.Goals as goal

pub returns-then-there : goal.returns-then-there
returns-then-there c =
    let w = c.put_word.ensures in (wrote_same w (ap state_word (sym c.if-there.true)), omega (arith, w.ends))

pub returns-else-there : goal.returns-else-there
returns-else-there c =
    let w = c.put_word-else-there.ensures in (wrote_same w (ap state_word (sym c.if-there.false)), omega (arith, w.ends))
