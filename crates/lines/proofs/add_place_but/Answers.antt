-- `lines::add_place_but` meets its contract: a column that is left out adds nothing.
use mathlib.Core.Path.{refl, sym}
use Rattle.parity.specs.Stripe.{lane}
use Rattle.lines.proofs.Places.{listed_none, listed_same, without_real, without_first, without_second}
use Rattle.lines.proofs.add_place_but.Goals as goal

pub returns-then-t-u : goal.returns-then-t-u
returns-then-t-u c =
    let a = c.args in
    listed_none _ _ _ 1 a.at.now _ (λ s l. without_first a.g.m a.u a.v (lane a.g.m a.g.b s l) a.r a.t c.if-t-u.true)

pub returns-then-t-v : goal.returns-then-t-v
returns-then-t-v c =
    let a = c.args in
    listed_none _ _ _ 1 a.at.now _ (λ s l. without_second a.g.m a.u a.v (lane a.g.m a.g.b s l) a.r a.t c.if-t-v.true)

pub returns : goal.returns
returns c =
    let a = c.args in
    listed_same c.add_place.ensures refl (λ s l. sym (without_real a.g.m a.u a.v (lane a.g.m a.g.b s l) a.r a.t c.if-t-u.false c.if-t-v.false))
