-- `walk::walk` meets its contract. The invariant: r is the row come to after n steps, and the rows come to so far are parted, the others mixed still.
use mathlib.Core.Path.{◌≡◌}
use Prim.Native.Nat.{◌-◌, ◌≤◌}
use Rattle.walk.proofs.Rows.{visit}
use Rattle.walk.proofs.Halves.{Halves}
use Rattle.walk.proofs.walk.Given as goal

abbrev pub invariant-loop-n : goal.invariant-loop-n
invariant-loop-n l =
    (l.n-end ≡ l.g.m - 1) × (l.n ≤ l.n-end) × (l.r ≡ visit l.g.m l.delta l.n) × Halves l.g.m l.g.b l.delta l.n l.initial.w l.w
