-- `encoding::put_groups` meets its contract. The invariant: H and D have the columns below t.
use mathlib.Core.Path.{◌≡◌, ap, ◌∙◌, subst}
use mathlib.Core.Logic.{◌≢◌}
use Prim.Native.Nat.{ℕ, ◌+◌, ◌*◌, ◌-◌}
use lib.ListN.{length, get_or}
use Rattle.parity.specs.Xor.{◌⊕◌}
use Rattle.parity.specs.Stripe.{lane}
use Rattle.lines.specs.Lines.{line}
use Rattle.lines.specs.Rows.{Lined}
use Rattle.lines.proofs.Lines.{span_line, span_join}
use Rattle.lines.proofs.Rows.{lined_same}
use Rattle.sums.specs.Sums.{begun}
use Rattle.sums.proofs.Sweeps.{InCells, in_cells_next}
use Rattle.encoding.specs.Sums.{over, spans}
use Rattle.encoding.proofs.Ends.{from_none}
use native.Mathlib.Omega.{arith}
use Rattle.encoding.proofs.put_groups.Goals as goal
use Rattle.encoding.proofs.put_groups.Goals.{After-put_group}

grown : (c : After-put_group) → let a = c.args in
    InCells (a.g.m - 1) a.g.b (length a.h.now) (spans a.g a.s.now 0) a.h.now c.put_group.new.h c.min.result
    × InCells (a.g.m - 1) a.g.b ((a.g.m - 2) * a.g.b) (spans a.g a.s.now 1) a.d.now c.put_group.new.d c.min.result
grown c =
    let a = c.args in
    let y = c.loop-t in
    let n = c.min.result in
    let join = λ (e r l t n : ℕ) (_ : t ≢ 0). span_join a.g.m (lane a.g.m a.g.b a.s.now l) e r 0 t n in (
      in_cells_next (a.g.m - 1) a.g.b _ _ (join 0) a.h.now y.h c.put_group.new.h (over y.t n) (omega arith) y.invariant.1
          (subst (λ (x : ℕ). Lined (a.g.m - 1) a.g.b 0 y.h c.put_group.new.h (λ r l. begun (over y.t n) y.h x (r * a.g.b) l ⊕ spans a.g a.s.now 0 y.t n r l)) y.auto.h c.put_group.ensures.rows),
      in_cells_next (a.g.m - 1) a.g.b _ _ (join 1) a.d.now y.d c.put_group.new.d (over y.t n) (omega arith) y.invariant.2 c.put_group.ensures.diagonals,
    )

pub loop-t-preserved : goal.loop-t-preserved
loop-t-preserved c =
    let e : c.min.result ≡ c.loop-t.t + 8 = omega arith in
    let next = grown (goal.at.loop-t-preserved c).After-put_group in
    (omega arith, rw (← e) next.0, rw (← e) next.1)

pub returns-2 : goal.returns-2
returns-2 c =
    let a = c.args in
    let n = c.min.result in
    let done = grown (goal.at.returns-2 c).After-put_group in
    let e : n ≡ a.g.k = omega arith in
    record {
      rows = lined_same (done.0.some (λ z. absurd (omega arith))) (λ r l hr hl. from_none a.g.m (lane a.g.m a.g.b a.s.now l) 0 r a.h.now l n ∙ ap (λ (x : ℕ). line a.g.m (lane a.g.m a.g.b a.s.now l) 0 r x) e);
      diagonals = lined_same (done.1.some (λ z. absurd (omega arith))) (λ r l hr hl. ap (λ (v : ℕ). get_or a.d.now ((a.g.m - 2) * a.g.b + l) 0 ⊕ v) (span_line a.g.m (lane a.g.m a.g.b a.s.now l) 1 r n ∙ ap (λ (x : ℕ). line a.g.m (lane a.g.m a.g.b a.s.now l) 1 r x) e));
    }
