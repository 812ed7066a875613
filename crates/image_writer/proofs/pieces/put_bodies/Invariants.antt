-- `image_writer::pieces::put_bodies` meets its contract. The loop's invariant: the bodies of the columns below t are written.
use Prim.Native.Nat.{◌≤◌}
use Rattle.text.specs.Text.{Wrote}
use Rattle.image.specs.Format.{joined}
use Rattle.image_writer.specs.Pieces.{body_of}
use Rattle.image_writer.proofs.pieces.put_bodies.Given as goal

abbrev pub invariant-loop-t : goal.invariant-loop-t
invariant-loop-t l =
    (l.t ≤ l.columns) × Wrote l.initial.image l.image l.at l.next (joined l.t (body_of l.map.places l.column l.stripe))
