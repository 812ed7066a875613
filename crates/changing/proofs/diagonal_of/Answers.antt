-- `changing::diagonal_of` meets its contract.
use mathlib.Core.Path.{◌≡◌, sym, ◌∙◌}
use Prim.Native.Nat.{◌+◌, ◌-◌}
use Rattle.lines.proofs.Lines.{up_around, up_straight}
use native.Mathlib.Omega.{arith}
use Rattle.changing.proofs.diagonal_of.Goals as goal

pub returns-then-i-t : goal.returns-then-i-t
returns-then-i-t c =
    let a = c.args in
    let e : a.i + a.t - a.t ≡ a.i = omega arith in
    (c.if-i-t.true, sym (up_straight a.m a.t (a.i + a.t) (omega arith) c.if-i-t.true) ∙ e)

pub returns : goal.returns
returns c =
    let a = c.args in
    let e : a.i + a.t - a.m + a.m - a.t ≡ a.i = omega arith in
    (omega (arith, c.requires.0, c.requires.1), sym (up_around a.m a.t (a.i + a.t - a.m) (omega (arith, c.requires.0, c.requires.1)) (omega (arith, c.requires.0))) ∙ e)
