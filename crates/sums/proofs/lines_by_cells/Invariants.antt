-- `sums::lines_by_cells` meets its contract. The invariant: the cells before r have their lines, and i is the line of cell r.
use mathlib.Core.Path.{◌≡◌}
use Prim.Native.Nat.{◌+◌, ◌*◌, ◌%◌, ◌≤◌}
use Rattle.parity.specs.Xor.{◌⊕◌}
use Rattle.lines.specs.Rows.{Lined}
use Rattle.sums.specs.Sums.{begun, window_of}
use Rattle.sums.proofs.lines_by_cells.Given as goal

abbrev pub invariant-loop-r : goal.invariant-loop-r
invariant-loop-r it =
    (it.r ≤ it.n) × (it.i ≡ (it.r + it.shift) % it.g.m)
    × Lined it.r it.g.b 0 it.initial.w it.w (λ r l. begun it.columns it.initial.w it.seed (r * it.g.b) l ⊕ window_of it.g it.s it.slant ((r + it.shift) % it.g.m) it.columns l)
