-- `maps::find_top` meets its contract. The loop's invariant: the top is that of the places below t.
use Prim.Native.Nat.{◌≤◌}
use Rattle.maps.specs.Tops.{Topped}
use Rattle.maps.proofs.find_top.Given as goal

abbrev pub invariant-loop-t : goal.invariant-loop-t
invariant-loop-t l = (l.t ≤ 129) × Topped l.t l.places l.top
