-- `counting::testing::count_cells` meets its contract. The invariant: what was found of the cells before r. Where all bytes are zero, no cell is set.
use Prim.Native.Nat.{◌+◌, ◌*◌, ◌≤◌}
use lib.ListN.{get_or}
use Rattle.counting.specs.Counting.{Found}
use Rattle.counting.proofs.Found.{seen}
use Rattle.counting.proofs.testing.count_cells.Given as goal

abbrev pub invariant-loop-r : goal.invariant-loop-r
invariant-loop-r it =
    (it.r ≤ it.n) × Found it.enough it.r it.b (λ l r. get_or it.w (r * it.b + l) 0) (seen it.count it.last)
