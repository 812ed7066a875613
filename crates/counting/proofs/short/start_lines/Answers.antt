-- `counting::short::start_lines` meets its contract: zero for rows, otherwise line m - 1 in the last cell, which is then repeated.
use mathlib.Core.Path.{◌≡◌, sym}
use Prim.Native.Nat.{◌*◌, ◌-◌}
use lib.ListN.{length}
use Rattle.parity.specs.Stripe.{lane}
use Rattle.lines.proofs.Lines.{column_is}
use Rattle.lines.proofs.Rows.{lined_same, run_rows}
use Rattle.lines.proofs.Turned.{last_cell}
use Rattle.counting.proofs.Buts.{but_last}
use native.Mathlib.Omega.{arith}
use Rattle.counting.proofs.short.start_lines.Goals as goal

pub returns-then-g-u : goal.returns-then-g-u
returns-then-g-u c =
    let a = c.args in
    let e : length a.w.now ≡ (a.g.m - 1) * a.g.b = omega (arith, c.requires.whole, column_is a.g.m a.g.b a.g.column c.requires.laid.sized) in
    lined_same (run_rows e c.zero.ensures) (λ r l _ _. sym (but_last a.g.m a.g.k c.requires.laid.sized.big c.requires.laid.few (lane a.g.m a.g.b a.s.now l) a.u c.if-g-u.true))

pub sum_last-requires : goal.sum_last-requires
sum_last-requires c =
    (omega (arith, last_cell c.requires.laid.sized 0, c.requires.whole), c.requires.places, c.requires.laid)
