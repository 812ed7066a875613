-- `maps::Map::gaps` meets its contract: the gaps below n, or below 129 where n is more.
use native.Mathlib.Omega.{arith}
use Rattle.maps.proofs.Map.gaps.Goals as goal

pub returns-then-n-gt129 : goal.returns-then-n-gt129
returns-then-n-gt129 c = let more = c.if-n-gt129.true in record { some = λ l. absurd (omega arith); all = λ _. c.find_gaps.ensures }

pub find_gaps-requires-2 : goal.find_gaps-requires-2
find_gaps-requires-2 c = c.if-n-gt129.false

pub returns : goal.returns
returns c = let few = c.if-n-gt129.false in record { some = λ _. c.find_gaps-2.ensures; all = λ l. absurd (omega arith) }
