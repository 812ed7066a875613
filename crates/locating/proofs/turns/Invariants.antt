-- `locating::turns` meets its contract. The invariant: the diagonals before i break by the amounts of the rows, turned by u.
use mathlib.Core.Path.{◌≡◌}
use Prim.Native.Nat.{ℕ, ◌-◌, ◌≤◌, ◌<◌}
use lib.ListN.{get_or}
use Rattle.parity.specs.Xor.{◌⊕◌}
use Rattle.parity.specs.Equations.{back}
use Rattle.locating.proofs.turns.Given as goal

abbrev pub invariant-loop-i : goal.invariant-loop-i
invariant-loop-i l =
    (l.i ≤ l.m - 1) × ((j : ℕ) → j < l.i → get_or l.fn.d j 0 ≡ get_or l.h (back l.m j l.u) 0 ⊕ get_or l.h (back l.m (l.m - 1) l.u) 0)
