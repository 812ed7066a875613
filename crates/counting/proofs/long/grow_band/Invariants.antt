-- `counting::long::grow_band` meets its contract. The invariant: the columns below t are added.
use mathlib.Core.Path.{◌≡◌}
use Prim.Native.Nat.{◌≤◌}
use lib.ListN.{length}
use Rattle.counting.proofs.Bands.{InBand}
use Rattle.counting.proofs.long.grow_band.Given as goal

abbrev pub invariant-loop-t : goal.invariant-loop-t
invariant-loop-t l =
    (l.t ≤ l.g.k) × (length l.at ≡ length l.initial.at) × InBand l.g l.s l.u l.first l.n l.seed l.initial.w l.w l.t
