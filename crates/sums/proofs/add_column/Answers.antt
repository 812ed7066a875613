-- `sums::add_column` meets its contract: a column that is left out adds nothing, another is turned as its line asks.
use mathlib.Core.Path.{sym, ap, ◌∙◌, subst}
use Prim.Native.Nat.{ℕ, ◌+◌, ◌*◌, ◌%◌, ◌<◌}
use Rattle.parity.specs.Equations.{back}
use Rattle.parity.specs.Stripe.{lane}
use Rattle.lines.specs.Lines.{real}
use Rattle.lines.proofs.Lines.{back_lt}
use Rattle.lines.proofs.Places.{without_real, without_first, without_second}
use Rattle.lines.proofs.Rows.{grown_none, grown_same}
use Rattle.lines.proofs.Turned.{turned_line}
use native.Mathlib.Omega.{arith}
use Rattle.sums.proofs.add_column.Goals as goal

pub returns-then-t-columns : goal.returns-then-t-columns
returns-then-t-columns c =
    let a = c.args in
    grown_none _ _ _ a.half.now _ (λ r l. without_first a.g.m a.columns.u a.columns.v (lane a.g.m a.g.b a.s.now l) (back a.g.m ((r + a.shift) % a.g.m) (a.slant * a.t)) a.t c.if-t-columns.true)

pub returns-then-t-columns-2 : goal.returns-then-t-columns-2
returns-then-t-columns-2 c =
    let a = c.args in
    grown_none _ _ _ a.half.now _ (λ r l. without_second a.g.m a.columns.u a.columns.v (lane a.g.m a.g.b a.s.now l) (back a.g.m ((r + a.shift) % a.g.m) (a.slant * a.t)) a.t c.if-t-columns-2.true)

pub add_turned-requires : goal.add_turned-requires
add_turned-requires c =
    let a = c.args in
    (omega (arith, c.requires.whole), c.requires.column, subst (λ (x : ℕ). x < a.g.m) (sym c.row_above.ensures) (back_lt a.g.m (a.slant * a.t) a.shift (omega (arith, c.requires.shift))), c.requires.sized)

pub returns : goal.returns
returns c =
    let a = c.args in
    let e = c.row_above in
    grown_same _ _ _ a.half.now c.add_turned.new.w _ _ c.add_turned.ensures (λ r l hr hl.
    ap (λ (x : ℕ). real a.g.m (lane a.g.m a.g.b a.s.now l) (back a.g.m r x) a.t) e.ensures
    ∙ ap (λ (x : ℕ). real a.g.m (lane a.g.m a.g.b a.s.now l) x a.t) (sym (turned_line a.g.m r (a.slant * a.t) a.shift c.requires.reached c.requires.shift))
    ∙ sym (without_real a.g.m a.columns.u a.columns.v (lane a.g.m a.g.b a.s.now l) (back a.g.m ((r + a.shift) % a.g.m) (a.slant * a.t)) a.t c.if-t-columns.false c.if-t-columns-2.false))
