-- `encoding::put_sum` meets its contract. The invariant: the cell has the columns below t.
use Prim.Native.Nat.{◌-◌, ◌<◌}
use Rattle.sums.proofs.Sweeps.{InCell}
use Rattle.encoding.specs.Sums.{spans}
use Rattle.encoding.proofs.put_sum.Given as goal

abbrev pub invariant-loop-t : goal.invariant-loop-t
invariant-loop-t it =
    (it.t < it.g.k) × InCell it.g.b it.none it.last (λ x y l. spans it.g it.s 1 x y (it.g.m - 1) l) it.initial.d it.d it.t
