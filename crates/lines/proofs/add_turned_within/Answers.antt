-- `lines::add_turned_within` meets its contract: the column stands before the cells that it is added to.
use native.Mathlib.Omega.{arith}
use Rattle.lines.proofs.Turned.{turned_behind}
use Rattle.lines.proofs.add_turned_within.Goals as goal

pub returns : goal.returns
returns c =
    let a = c.args in
    let parts = c.split_at_mut-front.ensures in
    turned_behind c.requires.3 a.turn a.at a.t a.w.now _ _ _ (omega (arith, c.requires.0)) c.requires.1 parts.front parts.back c.add_turned.ensures
