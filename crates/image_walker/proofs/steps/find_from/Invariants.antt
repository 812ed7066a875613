-- `image_walker::steps::find_from` meets its contract. The loop's invariant: no column from the place on and below t is present, and `start` is where the
-- body of column t would begin.
use mathlib.Core.Path.{◌≡◌}
use Prim.Native.Nat.{◌≤◌}
use Rattle.image_walker.specs.Steps.{AbsentFrom}
use Rattle.image_walker.specs.Finding.{body_start}
use Rattle.image_walker.proofs.steps.find_from.Given as goal

abbrev pub invariant-loop-t : goal.invariant-loop-t
invariant-loop-t l = (l.t ≤ l.columns) × (l.start ≡ body_start l.map.places l.columns l.column l.t) × AbsentFrom l.place l.t l.map.places
