-- `changing::change_cell` meets its contract: the diagonal of S is m - 1.
use mathlib.Core.Path.{sym, ap, ◌∙◌}
use Prim.Native.Nat.{ℕ}
use Rattle.parity.specs.Equations.{back}
use native.Mathlib.Omega.{arith}
use Rattle.changing.proofs.change_cell.Goals as goal

pub change_on_s-requires : goal.change_on_s-requires
change_on_s-requires c =
    let own = c.diagonal_of-own in
    (c.requires.0, c.requires.1, c.requires.2, ap (λ (d : ℕ). back c.args.g.m d c.args.t) (sym c.if-own-g.true) ∙ own.ensures.1, c.requires.3)

pub change_off_s-requires : goal.change_off_s-requires
change_off_s-requires c =
    let own = c.diagonal_of-own in
    (c.requires.0, c.requires.1, c.requires.2, omega (arith, own.ensures.0, c.if-own-g.false), own.ensures.1, c.requires.3)
