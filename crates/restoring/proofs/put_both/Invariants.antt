-- `restoring::put_both` meets its contract. The invariant: both halves are summed over the columns below t.
use Prim.Native.Nat.{◌≤◌}
use Rattle.restoring.proofs.Steps.{InBench}
use Rattle.restoring.proofs.put_both.Given as goal

abbrev pub invariant-loop-t : goal.invariant-loop-t
invariant-loop-t l =
    (l.t ≤ l.g.k) × InBench l.g l.s l.shift l.u l.v l.initial.bench l.bench l.t
