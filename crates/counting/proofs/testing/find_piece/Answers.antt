-- `counting::testing::find_piece` meets its contract: a row, a diagonal, and both where a data column is left out.
use mathlib.Core.Path.{refl, sym, subst}
use Prim.Native.Nat.{ℕ, ◌+◌, ◌*◌, ◌<◌}
use native.Mathlib.Nat.{le_refl}
use Rattle.parity.specs.Stripe.{lane}
use Rattle.lines.proofs.Lines.{back_lt}
use Rattle.lines.proofs.Places.{listed_then, listed_same, listed_most}
use Rattle.counting.proofs.Buts.{window_row, window_data, window_diagonal}
use native.Mathlib.Omega.{arith}
use Rattle.counting.proofs.testing.find_piece.Goals as goal

pub returns-then-g-u : goal.returns-then-g-u
returns-then-g-u c =
    let a = c.args in
    let p = a.piece in
    listed_same (listed_most (omega arith) c.find_line.ensures) refl (λ s l. window_row a.g.m a.g.k (lane a.g.m a.g.b s l) p.u a.d p.from p.to c.if-g-u.true)

pub find_row-requires : goal.find_row-requires
find_row-requires c =
    let a = c.args in
    let e = c.find_line-n.ensures in (
      omega (arith, c.requires.0, e.most, e.size),
      record {
        sized = c.requires.1.sized;
        few = c.requires.1.few;
        slant = omega arith;
        inside = subst (λ (x : ℕ). x < a.g.m) (sym c.row_above-r.ensures) (back_lt a.g.m a.d a.piece.u (omega (arith, c.requires.1.inside)));
        order = c.requires.1.order;
        most = c.requires.1.most;
      },
    )

pub returns-then-u-g : goal.returns-then-u-g
returns-then-u-g c =
    let a = c.args in
    let p = a.piece in
    listed_same (listed_then (le_refl ((a.g.k + 2) * a.g.column)) c.find_line-n.ensures c.find_row.ensures) (omega arith) (λ s l.
    rw c.row_above-r.ensures (window_data a.g.m a.g.k (lane a.g.m a.g.b s l) p.u a.d p.from p.to c.if-u-g.true))

pub returns : goal.returns
returns c =
    let a = c.args in
    let p = a.piece in
    listed_same (listed_most (omega arith) c.find_line-n.ensures) refl (λ s l. window_diagonal a.g.m a.g.k (lane a.g.m a.g.b s l) p.u a.d p.from p.to c.if-g-u.false c.if-u-g.false)
