-- `image::numbers::two` meets its contract: what the two bytes are worth.
use Prim.Native.Nat.{◌+◌}
use native.Mathlib.Omega.{arith}
use Rattle.image.specs.Reads.{number2}
use Rattle.image.proofs.numbers.two.Goals as goal

pub returns : goal.returns
unfolding number2
returns c = let a = c.from.ensures in let b = c.from_le_bytes.ensures in
    (omega arith, omega (arith, c.type_inv.image c.args.x, c.type_inv.image (c.args.x + 1)))
