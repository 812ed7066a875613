-- `cells::xor_into` meets its contract. The invariant: the bytes before j are added to, the others as they were.
use mathlib.Core.Path.{◌≡◌}
use Prim.Native.Nat.{◌≤◌}
use lib.ListN.{length, get_or}
use Rattle.parity.specs.Xor.{◌⊕◌}
use Rattle.cells.specs.Runs.{Put}
use Rattle.cells.proofs.xor_into.Given as goal

abbrev pub invariant-loop-j : goal.invariant-loop-j
invariant-loop-j it =
    (it.j-end ≡ length it.initial.acc) × (it.j ≤ it.j-end) × Put it.initial.acc it.acc 0 it.j (λ l. get_or it.initial.acc l 0 ⊕ get_or it.cell l 0)
