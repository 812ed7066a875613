-- `counting::find_broken_row` meets its contract: the lines of column D left out are the rows.
use Rattle.counting.proofs.Tests.{row_there, row_none}
use Rattle.counting.proofs.find_broken_row.Goals as goal

pub returns-then-rows-eq0 : goal.returns-then-rows-eq0
returns-then-rows-eq0 c =
    let a = c.args in
    let r = c.count_lines-rows in
    row_none a.g.m a.g.k a.g.b c.requires.sized.big c.requires.few a.s.now r.result r.ensures c.if-rows-eq0.true

pub returns : goal.returns
returns c =
    let a = c.args in
    let r = c.count_lines-rows in
    row_there a.g.m a.g.k a.g.b c.requires.sized.big c.requires.few a.s.now r.result r.ensures c.if-rows-eq0.false
