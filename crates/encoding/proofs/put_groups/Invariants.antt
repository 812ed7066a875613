-- `encoding::put_groups` meets its contract. The invariant: H and D have the columns below t.
use Prim.Native.Nat.{◌*◌, ◌-◌, ◌<◌}
use lib.ListN.{length}
use Rattle.sums.proofs.Sweeps.{InCells}
use Rattle.encoding.specs.Sums.{spans}
use Rattle.encoding.proofs.put_groups.Given as goal

abbrev pub invariant-loop-t : goal.invariant-loop-t
invariant-loop-t l =
    (l.t < l.g.k) × InCells (l.g.m - 1) l.g.b (length l.initial.h) (spans l.g l.s 0) l.initial.h l.h l.t
    × InCells (l.g.m - 1) l.g.b ((l.g.m - 2) * l.g.b) (spans l.g l.s 1) l.initial.d l.d l.t
