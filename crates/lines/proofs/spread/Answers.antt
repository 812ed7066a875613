-- `lines::spread` meets its contract: the last cell of a column is none of the others.
use mathlib.Core.Logic.{inr}
use Rattle.lines.proofs.Turned.{last_cell}
use native.Mathlib.Nat.{le_refl}
use native.Mathlib.Omega.{arith}
use Rattle.lines.proofs.spread.Goals as goal

pub add_to_each-requires : goal.add_to_each-requires
add_to_each-requires c =
    let e = last_cell c.requires.1 0 in
    (omega (arith, e, c.requires.0), omega (arith, e, c.requires.0), inr (le_refl _))
