-- `restoring::put_total` meets its contract: the cells of H and D stand one after another.
use mathlib.Core.Path.{refl, ◌∙◌}
use Prim.Native.Nat.{◌+◌, ◌*◌}
use Rattle.parity.specs.Stripe.{lane}
use Rattle.cells.proofs.Puts.{put_same}
use Rattle.lines.proofs.Lines.{column_is}
use Rattle.lines.proofs.Turned.{last_cell}
use Rattle.restoring.proofs.Bench.{half_whole}
use Rattle.restoring.proofs.Totals.{two_sum, both_columns}
use native.Mathlib.Omega.{arith}
use Rattle.restoring.proofs.put_total.Goals as goal

pub total_cells-requires : goal.total_cells-requires
total_cells-requires c =
    let a = c.args in
    let e = last_cell c.requires.1.sized 0 in
    record {
      filled = c.requires.1.sized.filled;
      short = c.requires.1.sized.short;
      some = omega (arith, c.requires.1.sized.big);
      most = omega (arith, c.requires.1.sized.few);
      cells = omega (arith, column_is a.g.m a.g.b a.g.column c.requires.1.sized, half_whole a.s.now (a.g.k * a.g.column) (a.g.k * a.g.column + 2 * a.g.column) (omega arith) (omega (arith, c.requires.1.whole)) refl);
      room = omega (arith, c.requires.0);
    }

pub returns : goal.returns
returns c =
    let a = c.args in
    put_same c.total_cells.ensures (λ l h. two_sum c.requires.1.sized a.s.now a.g.k (a.g.k * a.g.column) l refl h ∙ both_columns a.g.m (lane a.g.m a.g.b a.s.now l) a.g.k)
