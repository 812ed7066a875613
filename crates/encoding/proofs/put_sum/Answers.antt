-- `encoding::put_sum` meets its contract. The invariant: the cell has the columns below t.
use mathlib.Core.Path.{◌≡◌, ap, ◌∙◌}
use mathlib.Core.Logic.{◌≢◌}
use Prim.Native.Nat.{ℕ, ◌+◌, ◌*◌, ◌-◌}
use lib.ListN.{length}
use Rattle.parity.specs.Xor.{◌⊕◌}
use Rattle.parity.specs.Stripe.{lane}
use Rattle.cells.proofs.Puts.{put_same}
use Rattle.lines.specs.Lines.{line}
use Rattle.lines.proofs.Lines.{span_join}
use Rattle.lines.proofs.Turned.{last_cell}
use Rattle.sums.proofs.Sweeps.{InCell, in_cell_next, begun_at, begun_room}
use Rattle.encoding.specs.Sums.{over, spans}
use Rattle.encoding.proofs.Ends.{from_none}
use native.Mathlib.Omega.{arith}
use Rattle.encoding.proofs.put_sum.Goals as goal
use Rattle.encoding.proofs.put_sum.Goals.{After-put_cell}

pub put_cell-requires : goal.put_cell-requires
put_cell-requires c =
    let z = c.requires.0.sized in
    let end = last_cell z 0 in (
      record { all = c.requires.0; order = omega arith; most = omega arith; few = omega arith },
      omega arith,
      omega (arith, z),
      begun_room (over c.loop-t.t c.min.result) (record { inside = omega (arith, end); later = omega (arith, end); near = omega arith; whole = λ h. absurd (omega arith) }) c.begin_at-seed.ensures,
    )

summed : (c : After-put_cell) → let a = c.args in
    InCell a.g.b (length a.d.now) ((a.g.m - 2) * a.g.b) (λ x y l. spans a.g a.s.now 1 x y (a.g.m - 1) l) a.d.now c.put_cell.new.w c.min.result
summed c =
    let a = c.args in
    let y = c.loop-t in
    let i = a.g.m - 1 in
    let last = (a.g.m - 2) * a.g.b in
    let columns = over y.t c.min.result in
    in_cell_next a.g.b _ last _ (λ (l t n : ℕ) (_ : t ≢ 0). span_join a.g.m (lane a.g.m a.g.b a.s.now l) 1 i 0 t n) a.d.now y.d c.put_cell.new.w columns (omega arith) y.invariant.1
    (put_same c.put_cell.ensures (λ l h. ap (λ (v : ℕ). v ⊕ spans a.g a.s.now 1 y.t c.min.result i l) (begun_at columns _ last l y.d c.begin_at-seed.ensures)))

pub loop-t-preserved : goal.loop-t-preserved
loop-t-preserved c =
    let e : c.min.result ≡ c.loop-t.t + 8 = omega arith in
    (omega arith, rw (← e) (summed (goal.at.loop-t-preserved c).After-put_cell))

pub returns-2 : goal.returns-2
returns-2 c =
    let a = c.args in
    let n = c.min.result in
    let e : n ≡ a.g.k = omega arith in
    put_same ((summed (goal.at.returns-2 c).After-put_cell).some (λ z. absurd (omega arith))) (λ l h.
    from_none a.g.m (lane a.g.m a.g.b a.s.now l) 1 (a.g.m - 1) a.d.now l n ∙ ap (λ (x : ℕ). line a.g.m (lane a.g.m a.g.b a.s.now l) 1 (a.g.m - 1) x) e)
