-- `report::writing::put_line` meets its contract: the number, the state, the bytes and the end of the line, one after another.
use Rattle.text.proofs.Writing.{wrote_then}
use native.Mathlib.Omega.{arith}
use Rattle.report.proofs.writing.put_line.Goals as goal

pub returns : goal.returns
returns c =
    let number = c.put_decimal-first.ensures in
    let state = c.put_state-second.ensures in
    let bytes = c.put_hex-third.ensures in
    let last = c.put_byte.ensures in
    (wrote_then (wrote_then (wrote_then number.0 state.0) bytes.0) last, omega (arith, last.ends))
