-- `text::put_decimal` meets its contract: a number below 10,000 has at most four digits.
use native.Mathlib.Omega.{arith}
use Rattle.text.proofs.Writing.{length_decimal}
use Rattle.text.proofs.put_decimal.Goals as goal

pub put_digits-requires : goal.put_digits-requires
put_digits-requires c = (omega arith, omega (arith, length_decimal c.args.n))

pub returns : goal.returns
returns c = (c.put_digits.ensures, omega (arith, c.put_digits.ensures.ends, length_decimal c.args.n))
