-- `image::reading::copy_bodies` meets its contract. The loop's invariant: the columns below t are copied.
use Prim.Native.Nat.{◌≤◌}
use Rattle.image.specs.Entries.{CopiedBelow}
use Rattle.image.proofs.reading.copy_bodies.Given as goal

abbrev pub invariant-loop-t : goal.invariant-loop-t
invariant-loop-t l = (l.t ≤ l.columns) × CopiedBelow l.image l.map.places l.column l.t l.initial.stripe l.stripe
