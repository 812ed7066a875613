-- `counting::long::gather` meets its contract. The invariant: the bytes before j have the eight parts or-ed to them, the others are as they were.
use mathlib.Core.Path.{◌≡◌}
use Prim.Native.Nat.{◌≤◌}
use lib.ListN.{length, get_or}
use Rattle.cells.specs.Runs.{Put}
use Rattle.counting.proofs.Gathers.{ored}
use Rattle.counting.proofs.long.gather.Given as goal

abbrev pub invariant-loop-j : goal.invariant-loop-j
invariant-loop-j it = (it.j-end ≡ length it.initial.o) × (it.j ≤ it.j-end) × Put it.initial.o it.o 0 it.j (λ l. ored (get_or it.initial.o l 0) it.acc l 7)
