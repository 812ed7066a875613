-- `maps::Map::bytes` meets its contract. The loop's invariant: the bytes below t are those of the places.
use Prim.Native.Nat.{◌≤◌}
use mir.Val.{bool_byte}
use Rattle.parity.specs.Presence.{present}
use Rattle.maps.proofs.Filling.{FilledTo}
use Rattle.maps.proofs.Map.bytes.Given as goal

abbrev pub invariant-loop-t : goal.invariant-loop-t
invariant-loop-t l = (l.t ≤ 129) × FilledTo 0 (λ x. bool_byte (present l.places x)) l.t l.bytes
