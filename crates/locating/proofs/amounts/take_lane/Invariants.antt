-- `locating::amounts::take_lane` meets its contract. The invariant: the bytes before i are read.
use Prim.Native.Nat.{◌+◌, ◌*◌, ◌≤◌}
use lib.ListN.{get_or}
use Rattle.cells.specs.Runs.{Put}
use Rattle.locating.proofs.amounts.take_lane.Given as goal

abbrev pub invariant-loop-i : goal.invariant-loop-i
invariant-loop-i l =
    (l.i ≤ l.last) × Put l.initial.byte-items l.byte-items 0 l.i (λ i. get_or l.s (l.from + i * l.b) 0)
