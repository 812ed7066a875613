-- `restoring::h_and_d` meets its contract: both are what the data columns give.
use Prim.Native.Nat.{◌+◌, ◌*◌, ◌-◌, ◌%◌}
use borrow.Rule.Slice.PartMut.{put_mid}
use Rattle.parity.specs.Stripe.{lane}
use Rattle.restoring.specs.Left.{diagonal_left}
use Rattle.restoring.proofs.Bench.{half_whole}
use Rattle.restoring.proofs.Steps.{half_cells, last_put, last_bench, last_is, parted_from, restored_anew, h_d}
use native.Mathlib.Omega.{arith}
use Rattle.restoring.proofs.h_and_d.Goals as goal

pub put_diagonal-requires : goal.put_diagonal-requires
put_diagonal-requires c =
    let a = c.args in
    (omega (arith, c.requires.laid.sized.big), (half_cells c.requires.laid (half_whole a.bench.now a.g.column (2 * a.g.column) (omega arith) (omega (arith, c.requires.bench)) (omega arith))).room, c.requires.laid)

pub returns : goal.returns
returns c =
    let a = c.args in
    let y = c.put_diagonal.new.w in
    let p = c.put_diagonal.ensures in
    restored_anew {w₁ = (put_mid a.g.column (2 * a.g.column - a.g.column) a.bench.now y)} (last_put a.g a.s.now a.bench.now y c.requires p).size
    (h_d a.g a.s.now (put_mid a.g.column (2 * a.g.column - a.g.column) a.bench.now y) (last_bench a.g a.s.now a.bench.now y c.requires p) (parted_from (λ r l. diagonal_left a.g a.g.k (a.g.k + 1) a.s.now ((r + 0) % a.g.m) l) (λ r l. lane a.g.m a.g.b (put_mid a.g.column (2 * a.g.column - a.g.column) a.bench.now y) l (a.g.m - 2) 1) (λ r l. diagonal_left a.g a.g.k (a.g.k + 1) a.s.now (a.g.m - 1) l) c.put_both.ensures (λ r l hr hl. last_is a.g a.s.now a.bench.now y c.requires p l hl)))
