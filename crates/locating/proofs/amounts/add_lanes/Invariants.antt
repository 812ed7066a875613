-- `locating::amounts::add_lanes` meets its contract. The invariant: the rows and the diagonals over the columns before t.
use mathlib.Core.Path.{◌≡◌}
use Prim.Native.Nat.{◌≤◌}
use lib.ListN.{length}
use Rattle.parity.specs.Stripe.{lane}
use Rattle.locating.specs.Locating.{Summed}
use Rattle.locating.proofs.amounts.add_lanes.Given as goal

abbrev pub invariant-loop-t : goal.invariant-loop-t
invariant-loop-t it =
    (it.t-end ≡ it.g.k) × (it.t ≤ it.t-end) × (length it.x ≡ length it.initial.x) × Summed it.g.m (lane it.g.m it.g.b it.s it.l) it.t it.h it.d
