-- `changing::change_item` meets its contract: the diagonal of S is m - 1.
use mathlib.Core.Path.{sym, ap, ◌∙◌}
use Prim.Native.Nat.{ℕ}
use Rattle.parity.specs.Equations.{back}
use Rattle.changing.proofs.Owed.{paid_off_s}
use native.Mathlib.Omega.{arith}
use Rattle.changing.proofs.many_cells.change_item.Goals as goal

pub change_owing-requires : goal.change_owing-requires
change_owing-requires c =
    let own = c.diagonal_of-own in
    (c.requires.0, c.requires.1, c.requires.2, c.requires.3, ap (λ (d : ℕ). back c.args.g.m d c.args.t) (sym c.if-own-g.true) ∙ own.ensures.1, c.requires.4)

pub change_off_s-requires : goal.change_off_s-requires
change_off_s-requires c =
    let own = c.diagonal_of-own in
    (c.requires.0, c.requires.2, c.requires.3, omega (arith, own.ensures.0, c.if-own-g.false), own.ensures.1, c.requires.4)

pub returns-else-own-g : goal.returns-else-own-g
returns-else-own-g c = paid_off_s c.args.owed.now c.requires.2 c.requires.3 c.change_off_s.ensures
