-- `maps::count_present` meets its contract. The loop's invariant: the places below t are counted.
use mathlib.Core.Path.{◌≡◌}
use Prim.Native.Nat.{◌≤◌}
use Rattle.parity.specs.Sum.{count}
use Rattle.parity.specs.Presence.{present}
use Rattle.maps.proofs.count_present.Given as goal

abbrev pub invariant-loop-t : goal.invariant-loop-t
invariant-loop-t l = (l.t ≤ 129) × (l.c ≡ count l.t (present l.places))
