-- `locating::amounts::add_lane` meets its contract: row i gets row i of the column, and diagonal i the row that it has there.
use mathlib.Core.Path.{◌∙◌}
use Rattle.parity.specs.Stripe.{lane}
use Rattle.cells.proofs.Puts.{put_start}
use Rattle.locating.proofs.Summing.{summed_next}
use Rattle.locating.proofs.amounts.add_lane.Goals as goal

pub returns : goal.returns
returns c =
    let a = c.args in
    let x = c.take_lane in
    summed_next a.g.m (lane a.g.m a.g.b a.s.now a.l) a.t c.requires.2 x.new.x (put_start x.ensures) (x.ensures.size ∙ c.requires.0.room) c.xor_into.ensures c.add_turned_lane.ensures
