-- `restoring::put_both` meets its contract. The invariant: both halves are summed over the columns below t.
use mathlib.Core.Path.{◌≡◌, ◌∙◌}
use Prim.Native.Nat.{◌+◌, ◌*◌, ◌-◌}
use borrow.Rule.Slice.PartMut.{put_mid}
use Rattle.parity.specs.Stripe.{lane}
use Rattle.cells.specs.Runs.{Put}
use Rattle.cells.proofs.Puts.{put_cleared}
use Rattle.lines.proofs.Turned.{last_cell}
use Rattle.restoring.proofs.Steps.{in_bench_next, in_bench_end, cleared, uncleared, whole}
use native.Mathlib.Omega.{arith}
use Rattle.restoring.proofs.put_both.Goals as goal
use Rattle.restoring.proofs.put_both.Goals.{After-zero}

pub slice_bounds-zero-count : goal.slice_bounds-zero-count
slice_bounds-zero-count c = omega (arith, last_cell c.requires.1.laid.sized 0, c.requires.1.bench)

pub slice_bounds-zero-start : goal.slice_bounds-zero-start
slice_bounds-zero-start c = omega (arith, last_cell c.requires.1.laid.sized 0, c.requires.1.bench)

-- the last cell of the first half was cleared
zeroed : (c : goal.After-zero) → Put c.args.bench.now (put_mid ((c.args.g.m - 2) * c.args.g.b) (c.args.g.column - (c.args.g.m - 2) * c.args.g.b) c.args.bench.now c.zero.new.acc) ((c.args.g.m - 2) * c.args.g.b) (c.args.g.column - (c.args.g.m - 2) * c.args.g.b) (λ l. 0)
zeroed c =
    let a = c.args in
    put_cleared a.bench.now c.zero.new.acc ((a.g.m - 2) * a.g.b) a.g.column (omega (arith, last_cell c.requires.1.laid.sized 0)) (omega (arith, c.requires.1.bench)) c.zero.ensures

pub loop-t-preserved : goal.loop-t-preserved
loop-t-preserved c =
    let a = c.args in
    let y = c.loop-t in
    let p = zeroed (goal.at.loop-t-preserved c).After-zero in
    let e : c.min.result ≡ y.t + 8 = omega arith in
    (omega arith, rw e at (in_bench_next a.g a.s.now a.shift a.u a.v _ y.bench c.sum_two.new.bench y.t c.min.result (omega arith) (p.size ∙ whole a.g a.s.now a.bench.now c.requires.1) y.invariant.1 c.sum_two.ensures))

pub returns-2 : goal.returns-2
returns-2 c =
    let a = c.args in
    let y = c.loop-t in
    let p = zeroed (goal.at.returns-2 c).After-zero in
    let q = in_bench_next a.g a.s.now a.shift a.u a.v _ y.bench c.sum_two.new.bench y.t c.min.result (omega arith) (p.size ∙ whole a.g a.s.now a.bench.now c.requires.1) y.invariant.1 c.sum_two.ensures in
    in_bench_end a.g a.s.now a.shift a.u a.v _ c.sum_two.new.bench c.min.result (λ l. lane a.g.m a.g.b a.bench.now l (a.g.m - 2) 1) (omega arith) c.requires.1.laid.some (cleared c.requires.1 p) (uncleared c.requires.1 p) q

pub returns : goal.returns
returns c =
    let a = c.args in
    let y = c.loop-t in
    let p = zeroed (goal.at.returns c).After-zero in
    in_bench_end a.g a.s.now a.shift a.u a.v _ y.bench y.t (λ l. lane a.g.m a.g.b a.bench.now l (a.g.m - 2) 1) (omega arith) c.requires.1.laid.some (cleared c.requires.1 p) (uncleared c.requires.1 p) y.invariant.1
