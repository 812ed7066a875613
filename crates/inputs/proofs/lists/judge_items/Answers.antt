-- `inputs::lists::judge_items` meets its contract: of the first item that names no cell of the data the column is to blame, or else the row.
use native.Mathlib.Omega.{arith}
use Rattle.inputs.proofs.CellLists.{before_pass, first_seven, first_eleven}
use Rattle.inputs.proofs.lists.judge_items.Goals as goal

pub returns-then-item-columns : goal.returns-then-item-columns
returns-then-item-columns c = λ i h. before_pass c.find_outside-item.ensures i (omega (arith, c.if-item-columns.true, h))

pub returns-then-k-columns : goal.returns-then-k-columns
returns-then-k-columns c = let first = c.find_outside-item.ensures in first_seven first (omega (arith, first.within, c.if-item-columns.false)) c.if-k-columns.true

pub returns : goal.returns
returns c = let first = c.find_outside-item.ensures in first_eleven first (omega (arith, first.within, c.if-item-columns.false)) (omega (arith, c.if-k-columns.false))
