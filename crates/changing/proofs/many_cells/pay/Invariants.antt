-- `changing::pay` meets its contract. The invariant: the first i cells of D are paid.
use Prim.Native.Nat.{◌+◌, ◌≤◌}
use lib.ListN.{get_or}
use Rattle.lines.proofs.Rows.{Grown}
use Rattle.changing.proofs.many_cells.pay.Given as goal

abbrev pub invariant-loop-i : goal.invariant-loop-i
invariant-loop-i it =
    (it.i ≤ it.i-end) × Grown it.i it.b it.d it.initial.s it.s (λ r l. get_or it.owed (0 + l) 0)
