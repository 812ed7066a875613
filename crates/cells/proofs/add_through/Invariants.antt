-- `cells::add_through` meets its contract. The invariant: the first l bytes of each run are added to, all others as they were.
use mathlib.Core.Path.{◌≡◌}
use Prim.Native.Nat.{◌≤◌}
use lib.ListN.{length}
use Rattle.cells.specs.Runs.{Through}
use Rattle.cells.proofs.add_through.Given as goal

abbrev pub invariant-loop-l : goal.invariant-loop-l
invariant-loop-l it = (it.l ≤ it.n) × (length it.w ≡ length it.initial.w) × Through it.initial.w it.w it.from it.mid it.to it.l
