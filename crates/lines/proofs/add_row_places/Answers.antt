-- `lines::add_row_places` meets its contract. The invariant: the row's cells in the columns below t are listed.
use mathlib.Core.Path.{◌≡◌, sym, ap, ◌∙◌}
use Prim.Native.Nat.{◌*◌}
use Rattle.parity.specs.Equations.{back}
use Rattle.lines.proofs.Lines.{back_none}
use Rattle.lines.proofs.Places.{listed_first, listed_column}
use native.Mathlib.Omega.{arith}
use Rattle.lines.proofs.add_row_places.Goals as goal

pub loop-t-init : goal.loop-t-init
loop-t-init c = let a = c.args in (omega arith, c.requires.2.order, listed_first a.g 0 a.i a.columns)

pub loop-t-preserved : goal.loop-t-preserved
loop-t-preserved c =
    let a = c.args in
    let y = c.loop-t in
    let row : a.i ≡ back a.g.m a.i (0 * y.t) = sym (back_none a.g.m a.i c.requires.2.inside) ∙ ap (back a.g.m a.i) (omega arith) in
    (omega arith, omega arith, listed_column a.g 0 a.i a.columns a.i y.invariant.0 row y.invariant.2 c.add_place_but-x.ensures)
