-- `image_writer::pieces::put_entries` meets its contract. The loop's invariant: the entries of the columns below t are written, and the next body begins after theirs.
use mathlib.Core.Path.{◌≡◌}
use Prim.Native.Nat.{◌≤◌}
use Rattle.text.specs.Text.{Wrote}
use Rattle.image_writer.proofs.Joining.{begins, entries}
use Rattle.image_writer.proofs.pieces.put_entries.Given as goal

abbrev pub invariant-loop-t : goal.invariant-loop-t
invariant-loop-t l =
    (l.t ≤ l.columns) × Wrote l.initial.image l.image l.at l.next (entries l.map.places l.column l.bodies l.t) × (l.body ≡ begins l.map.places l.column l.bodies l.t)
