-- `locating::confirming::locate` meets its contract: by a row that breaks, and where none does, by the columns other than H.
use mathlib.Core.Path.{sym, ◌∙◌}
use mathlib.Core.Bool.{true≢false}
use Rattle.locating.proofs.Confirmed.{sound, only_D}
use Rattle.locating.proofs.confirming.locate.Goals as goal

pub returns-then-fits_but : goal.returns-then-fits_but
returns-then-fits_but c =
    let a = c.args in
    sound a.g.m a.g.k a.g.b a.s.now c.in_default.ensures (c.fits_but.ensures.0 c.if-fits_but.true)

pub returns : goal.returns
returns c =
    let a = c.args in
    only_D a.g.m a.g.k a.g.b a.s.now c.in_default.ensures (λ f. true≢false (sym (c.fits_but.ensures.1 f) ∙ c.if-fits_but.false))
