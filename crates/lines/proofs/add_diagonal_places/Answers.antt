-- `lines::add_diagonal_places` meets its contract. The invariant: the diagonal's cells in the columns below t are listed, and r is its row in column t.
use mathlib.Core.Path.{◌≡◌, ap, ◌∙◌}
use Prim.Native.Nat.{◌*◌}
use Rattle.parity.specs.Equations.{back}
use Rattle.lines.proofs.Lines.{back_lt, row_down}
use Rattle.lines.proofs.Places.{listed_first, listed_column}
use native.Mathlib.Omega.{arith}
use Rattle.lines.proofs.add_diagonal_places.Goals as goal

pub loop-t-init : goal.loop-t-init
loop-t-init c =
    let a = c.args in
    (omega arith, c.requires.2.order, c.row_above-r.ensures, listed_first a.g 1 a.i a.columns)

pub down_by_one-r-requires : goal.down_by_one-r-requires
down_by_one-r-requires c =
    let y = c.loop-t in
    omega (arith, y.invariant.2, back_lt c.args.g.m c.args.i y.t (omega (arith, c.requires.1.big)))

pub loop-t-preserved : goal.loop-t-preserved
loop-t-preserved c =
    let a = c.args in
    let y = c.loop-t in
    let h = c.loop-t-test.true in
    let row : y.r ≡ back a.g.m a.i (1 * y.t) = y.invariant.2 ∙ ap (back a.g.m a.i) (omega arith) in (
      omega arith,
      omega arith,
      row_down a.g.m a.i y.t y.r _ (omega (arith, c.requires.2.within, h)) y.invariant.2 c.down_by_one-r.ensures,
      listed_column a.g 1 a.i a.columns y.r y.invariant.0 row y.invariant.3 c.add_place_but-x.ensures,
    )
