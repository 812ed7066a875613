-- `sums::sum_line` meets its contract. The invariant: the columns below t are summed.
use Prim.Native.Nat.{◌<◌}
use Rattle.sums.specs.Sums.{window_of}
use Rattle.sums.proofs.Sweeps.{InCell, over}
use Rattle.sums.proofs.sum_line.Given as goal

abbrev pub invariant-loop-t : goal.invariant-loop-t
invariant-loop-t it =
    (it.t < it.columns.to)
    × InCell it.g.b it.seed it.to (λ x y l. window_of it.g it.s it.slant it.i (over it.g it.s it.slant it.columns.u it.columns.v x y) l) it.initial.w it.w it.t
