-- `maps::Map::of_bytes` meets its contract. The loop's invariant: the places below t are those of the bytes.
use mathlib.Core.Bool.{false}
use Prim.Native.Nat.{◌≤◌}
use lib.Dec.{eqb}
use lib.ListN.{get_or}
use Rattle.maps.proofs.Filling.{FilledTo}
use Rattle.maps.proofs.Map.of_bytes.Given as goal

abbrev pub invariant-loop-t : goal.invariant-loop-t
invariant-loop-t l = (l.t ≤ 129) × FilledTo false (λ x. eqb (get_or l.bytes x 0) 1) l.t l.places
