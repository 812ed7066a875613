-- `cells::add_within` meets its contract. The invariant: the first l bytes at `at` are added to, all others as they were.
use mathlib.Core.Path.{◌≡◌}
use Prim.Native.Nat.{◌≤◌, ◌+◌}
use lib.ListN.{length, get_or}
use Rattle.parity.specs.Xor.{◌⊕◌}
use Rattle.cells.specs.Runs.{Put}
use Rattle.cells.proofs.add_within.Given as goal

abbrev pub invariant-loop-l : goal.invariant-loop-l
invariant-loop-l it =
    (it.l ≤ it.n) × (length it.w ≡ length it.initial.w) × Put it.initial.w it.w it.at it.l (λ x. get_or it.initial.w (it.at + x) 0 ⊕ get_or it.initial.w (it.from + x) 0)
