-- `restoring::data_and_data` meets its contract: the walk parts what was mixed.
use Prim.Native.Nat.{◌+◌, ◌*◌, ◌-◌, ◌%◌}
use borrow.Rule.Slice.PartMut.{put_mid}
use Rattle.parity.specs.Sum.{sum}
use Rattle.parity.specs.Stripe.{lane}
use Rattle.lines.specs.Lines.{span}
use Rattle.restoring.specs.Left.{diagonal_left}
use Rattle.restoring.proofs.Steps.{last_put, last_bench, last_is, parted_from, restored_anew, walked}
use Rattle.restoring.proofs.data_and_data.Goals as goal

pub returns : goal.returns
returns c =
    let a = c.args in
    let y = c.put_total.new.half in
    let p = c.put_total.ensures in
    restored_anew {w₁ = (put_mid a.g.column (2 * a.g.column - a.g.column) a.bench.now y)} (last_put a.g a.s.now a.bench.now y c.requires.0 p).size
    (walked a.g a.s.now (put_mid a.g.column (2 * a.g.column - a.g.column) a.bench.now y) (last_bench a.g a.s.now a.bench.now y c.requires.0 p) a.u a.v c.requires.2 c.requires.3 c.requires.1
    (parted_from (λ r l. diagonal_left a.g a.u a.v a.s.now ((r + a.v) % a.g.m) l) (λ r l. lane a.g.m a.g.b (put_mid a.g.column (2 * a.g.column - a.g.column) a.bench.now y) l (a.g.m - 2) 1) (λ r l. sum (a.g.m - 1) (λ i. span a.g.m (lane a.g.m a.g.b a.s.now l) 0 i a.g.k (a.g.k + 2))) c.put_both.ensures (λ r l hr hl. last_is a.g a.s.now a.bench.now y c.requires.0 p l hl)) c.walk.ensures)
