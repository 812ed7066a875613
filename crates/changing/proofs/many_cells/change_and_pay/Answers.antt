-- `changing::change_and_pay` meets its contract: at first nothing is owed, and in the end it is paid, or is nothing.
use mathlib.Core.Path.{◌∙◌}
use Rattle.lines.proofs.Lines.{laid_kept}
use Rattle.changing.proofs.Owed.{paid_none}
use Rattle.changing.proofs.many_cells.change_and_pay.Goals as goal

pub pay-requires : goal.pay-requires
pay-requires c =
    let items = c.change_items.ensures in
    (laid_kept items.size c.requires.0, items.room ∙ c.requires.1)

pub returns-then-not-is_zero : goal.returns-then-not-is_zero
returns-then-not-is_zero c =
    c.change_items.ensures.holds c.args.s.now c.pay.new.s (paid_none c.args.s.now c.requires.2) c.pay.ensures

pub returns-else-not-is_zero : goal.returns-else-not-is_zero
returns-else-not-is_zero c =
    let items = c.change_items in
    items.ensures.holds c.args.s.now items.new.s (paid_none c.args.s.now c.requires.2) (paid_none items.new.s (c.is_zero.ensures.0 c.if-not-is_zero.false))
