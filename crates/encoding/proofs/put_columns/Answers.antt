-- `encoding::put_columns` meets its contract: H is cleared and D gets its last cell in every row, and then the columns are added. The invariant: those below t are.
use mathlib.Core.Path.{◌≡◌, ap, ◌∙◌}
use Prim.Native.Nat.{ℕ, ◌+◌, ◌*◌, ◌-◌}
use lib.ListN.{get_or}
use Rattle.parity.specs.Xor.{◌⊕◌}
use Rattle.parity.specs.Equations.{back}
use Rattle.parity.specs.Stripe.{lane}
use Rattle.parity.proofs.Xor.{zero_⊕}
use Rattle.lines.specs.Lines.{real, line}
use Rattle.lines.proofs.Lines.{span_none, span_more, span_line, column_is}
use Rattle.lines.proofs.Rows.{run_rows, lined_same, lined_grown, grown_none, grown_both}
use Rattle.encoding.specs.Sums.{spans}
use native.Mathlib.Omega.{arith}
use Rattle.encoding.proofs.put_columns.Goals as goal

pub loop-t-init : goal.loop-t-init
loop-t-init c =
    let a = c.args in
    let none = λ (e r l : ℕ). span_none a.g.m (lane a.g.m a.g.b a.s.now l) e r 0 in
    (grown_none _ _ _ _ _ (none 0), grown_none _ _ _ _ _ (none 1))

pub loop-t-preserved : goal.loop-t-preserved
loop-t-preserved c =
    let a = c.args in
    let g = a.g in
    let t = c.loop-t.t in
    let more = λ (e x r l : ℕ) (so : x ≡ e * t).
    ap (λ (y : ℕ). spans g a.s.now e 0 t r l ⊕ real g.m (lane g.m g.b a.s.now l) (back g.m r y) t) so ∙ span_more g.m (lane g.m g.b a.s.now l) e r 0 t in (
      grown_both _ _ _ _ _ _ _ _ _ c.loop-t.invariant.0 c.add_turned.ensures (λ r l. more 0 0 r l (omega arith)),
      grown_both _ _ _ _ _ _ _ _ _ c.loop-t.invariant.1 c.add_turned-in-loop-t.ensures (λ r l. more 1 t r l (omega arith)),
    )

pub returns : goal.returns
returns c =
    let a = c.args in
    let g = a.g in
    let t = c.loop-t.t in
    let e : t ≡ g.k = omega arith in
    let all = λ (e' r l : ℕ). span_line g.m (lane g.m g.b a.s.now l) e' r t ∙ ap (λ (x : ℕ). line g.m (lane g.m g.b a.s.now l) e' r x) e in
    let whole = column_is g.m g.b g.column c.requires.0.sized in
    record {
      rows = lined_same (lined_grown (g.m - 1) g.b 0 _ (run_rows (omega (arith, whole)) c.zero.ensures) c.loop-t.invariant.0) (λ r l hr hl. zero_⊕ _ ∙ all 0 r l);
      diagonals = lined_same (lined_grown (g.m - 1) g.b 0 _ c.repeat_last.ensures c.loop-t.invariant.1) (λ r l hr hl. ap (λ (v : ℕ). get_or a.d.now ((g.m - 2) * g.b + l) 0 ⊕ v) (all 1 r l));
    }
