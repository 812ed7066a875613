-- `restoring::total_cells` meets its contract. The invariant: the cells before x are summed.
use mathlib.Core.Path.{◌≡◌}
use mathlib.Core.Logic.{◌≢◌}
use Prim.Native.Nat.{◌≤◌}
use Rattle.parity.specs.Stripe.{lane}
use Rattle.cells.specs.Runs.{Put}
use Rattle.lines.specs.Lines.{span}
use Rattle.restoring.proofs.total_cells.Given as goal

abbrev pub invariant-loop-x : goal.invariant-loop-x
invariant-loop-x it =
    (it.x ≤ it.n) × (it.x ≡ 0 → it.w ≡ it.initial.w) × (it.x ≢ 0 → Put it.initial.w it.w it.to it.b (λ l. span 2 (lane 2 it.b it.s l) 0 0 0 it.x))
