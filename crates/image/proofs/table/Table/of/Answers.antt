-- `image::table::Table::of` meets its contract. The loop's invariant: the entries below t are right, and the table is what they say.
use borrow.Author.Rules.{rules}
use native.Mathlib.Omega.{arith}
use Rattle.image.proofs.Entering.{walked_none, walked_most}
use Rattle.image.proofs.table.Table.of.Goals as goal

pub loop-t-init : goal.loop-t-init
loop-t-init c = (search rules, walked_none _ _ _)

pub entered-requires : goal.entered-requires
entered-requires c =
    (omega arith, omega arith, omega (arith, walked_most _ _ _ _ _ c.loop-t.invariant.1 (omega arith) (omega arith)))
