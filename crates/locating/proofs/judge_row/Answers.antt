-- `locating::judge_row` meets its contract: the row breaks, so a lane was found at which it does.
use Rattle.locating.proofs.Lanes.{breaks_there}
use Rattle.locating.proofs.judge_row.Goals as goal

pub find_lane-l-requires : goal.find_lane-l-requires
find_lane-l-requires c = (c.requires.0.laid, c.requires.1)

pub judge_lane-requires : goal.judge_lane-requires
judge_lane-requires c =
    let a = c.args in
    let r = c.find_lane-l in
    (c.requires.0, r.ensures.within, breaks_there a.g a.s.now a.i c.requires.1 r.result r.ensures)

pub returns : goal.returns
returns c = c.judge_lane.ensures
