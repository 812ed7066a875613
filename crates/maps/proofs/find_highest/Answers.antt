-- `maps::find_highest` meets its contract: the top of all places tells the highest.
use native.Mathlib.Omega.{arith}
use Rattle.maps.proofs.Truth.{none_topped, topped_highest}
use Rattle.maps.proofs.find_highest.Goals as goal

pub returns-then-top-eq0 : goal.returns-then-top-eq0
returns-then-top-eq0 c = none_topped _ c.well_formed.0.1.0.1 _ c.find_top-top.ensures c.if-top-eq0.true

pub returns : goal.returns
returns c = topped_highest _ c.well_formed.0.1.0.1 _ c.find_top-top.ensures (omega arith)
