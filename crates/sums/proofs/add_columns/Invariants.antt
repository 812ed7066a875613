-- `sums::add_columns` meets its contract. The invariant: the columns before t are added.
use Prim.Native.Nat.{◌≤◌}
use Rattle.sums.proofs.Sweeps.{Swept}
use Rattle.sums.proofs.add_columns.Given as goal

abbrev pub invariant-loop-t : goal.invariant-loop-t
invariant-loop-t l =
    (l.columns.from ≤ l.t) × (l.t ≤ l.columns.to) × Swept l.g l.s l.slant l.shift l.columns l.initial.half l.half l.columns.from l.t
