-- `locating::amounts::find_amounts` meets its contract: a row gets H's cell, a diagonal D's cell and S, which is diagonal m - 1.
use Rattle.parity.specs.Stripe.{lane}
use Rattle.cells.proofs.Puts.{put_start}
use Rattle.locating.proofs.Summing.{breaks_by}
use Rattle.locating.proofs.amounts.find_amounts.Goals as goal

pub returns : goal.returns
returns c =
    let a = c.args in
    let l = c.requires.0.laid in
    let x = c.take_lane in
    let y = c.take_lane-2 in
    breaks_by a.g.m a.g.k l.sized.big l.few (lane a.g.m a.g.b a.s.now a.l) c.add_lanes.ensures x.new.x y.new.x (put_start x.ensures) (put_start y.ensures) c.xor_into.ensures c.xor_into-2.ensures c.add_to_each.ensures
