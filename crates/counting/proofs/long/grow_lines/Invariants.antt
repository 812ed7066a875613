-- `counting::long::grow_lines` meets its contract. The invariant: the cells before r have their pieces.
use mathlib.Core.Path.{◌≡◌}
use Prim.Native.Nat.{◌+◌, ◌*◌, ◌≤◌}
use lib.ListN.{length}
use Rattle.parity.specs.Xor.{◌⊕◌}
use Rattle.lines.specs.Rows.{Lined}
use Rattle.sums.specs.Sums.{begun}
use Rattle.counting.specs.Counting.{piece_of}
use Rattle.counting.proofs.long.grow_lines.Given as goal

abbrev pub invariant-loop-r : goal.invariant-loop-r
invariant-loop-r it =
    (it.r ≤ it.n) × (length it.at ≡ length it.initial.at)
    × Lined it.r it.g.b 0 it.initial.w it.w (λ r l. begun it.columns it.initial.w it.seed (r * it.g.b) l ⊕ piece_of it.g it.s (it.d + r) it.columns l)
