-- `sums::sum_cells` meets its contract. The invariant: the columns below t are summed.
use Prim.Native.Nat.{◌+◌, ◌%◌, ◌<◌}
use Rattle.sums.specs.Sums.{window_of}
use Rattle.sums.proofs.Sweeps.{InCells, over}
use Rattle.sums.proofs.sum_cells.Given as goal

abbrev pub invariant-loop-t : goal.invariant-loop-t
invariant-loop-t it =
    (it.t < it.columns.to)
    × InCells it.n it.g.b it.seed (λ x y r l. window_of it.g it.s it.slant ((r + it.shift) % it.g.m) (over it.g it.s it.slant it.columns.u it.columns.v x y) l) it.initial.w it.w it.t
