-- `counting::fits_but` meets its contract: no line differs from line m - 1 exactly when the candidate's equations hold.
use Rattle.counting.proofs.Tests.{fits_one, fits_none, breaks_none}
use Rattle.counting.proofs.fits_but.Goals as goal

pub returns-then-u-g : goal.returns-then-u-g
returns-then-u-g c =
    let a = c.args in
    let r = c.count_lines-others in
    fits_one a.g.m a.g.k a.g.b c.requires.sized.big c.requires.few a.s.now a.u r.result c.if-u-g.true r.ensures

pub returns-then-diagonals-ne0 : goal.returns-then-diagonals-ne0
returns-then-diagonals-ne0 c =
    let a = c.args in
    let d = c.count_lines-diagonals in
    breaks_none a.g.m a.g.k a.g.b c.requires.sized.big c.requires.few a.s.now a.u c.if-u-g.false d.result d.ensures c.if-diagonals-ne0.true

pub returns : goal.returns
returns c =
    let a = c.args in
    let d = c.count_lines-diagonals in
    let r = c.count_lines-rows in
    fits_none a.g.m a.g.k a.g.b c.requires.sized.big c.requires.few a.s.now a.u c.if-u-g.false d.result d.ensures c.if-diagonals-ne0.false r.result r.ensures
