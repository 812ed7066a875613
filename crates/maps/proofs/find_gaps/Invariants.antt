-- `maps::find_gaps` meets its contract. The loop's invariant: the gaps are those below t.
use Prim.Native.Nat.{◌≤◌}
use Rattle.maps.specs.Absent.{Counts}
use Rattle.maps.proofs.find_gaps.Given as goal

abbrev pub invariant-loop-t : goal.invariant-loop-t
invariant-loop-t l = (l.t ≤ l.n) × Counts l.t l.places l.gaps
