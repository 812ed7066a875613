-- `locating::amounts::add_turned_lane` meets its contract: the two runs are the rows from t on, and those before.
use lib.ListN.{length}
use Rattle.locating.proofs.Summing.{turned_added}
use Rattle.locating.proofs.amounts.add_turned_lane.Goals as goal

pub returns : goal.returns
returns c =
    let a = c.args in
    turned_added a.x.now a.t (length a.x.now) c.requires.0 c.requires.1 c.add_run.ensures c.add_run-2.ensures
