-- `lines::add_to_each` meets its contract. The invariant: the first r cells have the cell at `from` added.
use Prim.Native.Nat.{◌+◌, ◌≤◌}
use lib.ListN.{get_or}
use Rattle.lines.proofs.Rows.{Grown}
use Rattle.lines.proofs.add_to_each.Given as goal

abbrev pub invariant-loop-r : goal.invariant-loop-r
invariant-loop-r it =
    (it.r ≤ it.n) × Grown it.r it.b it.at it.initial.w it.w (λ r l. get_or it.initial.w (it.from + l) 0)
