-- `lines::add_cells` meets its contract. The invariant: the cells at the places so far are added.
use Prim.Native.Nat.{◌+◌}
use Rattle.cells.specs.Runs.{Added}
use Rattle.lines.specs.Places.{total}
use Rattle.lines.proofs.add_cells.Given as goal

abbrev pub invariant-loop-place : goal.invariant-loop-place
invariant-loop-place it = Added it.initial.acc it.acc (λ l. total it.at it.place-index it.s (it.j + l))
