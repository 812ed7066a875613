-- `image::table::Table::entered` meets its contract: a law of `Reached` for each state of an entry.
use mathlib.Core.Path.{◌∙◌}
use Rattle.image.proofs.Entering.{walked_present, walked_absent}
use Rattle.image.proofs.table.Table.entered.Goals as goal

pub returns-then-not-there : goal.returns-then-not-there
returns-then-not-there c = λ start r.
    let (says, right) = c.in_ok-there.ensures in
    walked_absent _ start _ _ _ r (says ∙ c.if-not-there.true) right

pub returns : goal.returns
returns c = λ start r.
    let (says, right) = c.in_ok-there.ensures in
    walked_present _ start _ _ _ r c.requires.1 (says ∙ c.if-not-there.false) right
