-- `report::writing::put_shape` meets its contract: the word, and then the three numbers.
use Rattle.text.proofs.Writing.{wrote_then}
use native.Mathlib.Omega.{arith}
use Rattle.report.proofs.writing.put_shape.Goals as goal

pub returns : goal.returns
returns c =
    let word = c.put_word-first.ensures in
    let first = c.put_field-second.ensures in
    let second = c.put_field-third.ensures in
    let third = c.put_field.ensures in
    (wrote_then (wrote_then (wrote_then word first.0) second.0) third.0, omega (arith, word.ends))
