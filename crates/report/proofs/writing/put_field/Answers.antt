-- `report::writing::put_field` meets its contract: the number, and then the byte.
use Rattle.text.proofs.Writing.{wrote_then}
use native.Mathlib.Omega.{arith}
use Rattle.report.proofs.writing.put_field.Goals as goal

pub returns : goal.returns
returns c =
    (wrote_then c.put_decimal-next.ensures.0 c.put_byte.ensures, omega (arith, c.put_decimal-next.ensures.1, c.put_byte.ensures.ends))
