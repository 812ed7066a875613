-- `judging::columns::Columns::is_blank` meets its contract. The invariant: the columns before t are zeros.
use mathlib.Core.Path.{◌≡◌}
use Prim.Native.Nat.{ℕ, ◌+◌, ◌≤◌, ◌<◌}
use Rattle.cells.specs.Runs.{Zeros}
use Rattle.judging.specs.Shown.{shown}
use Rattle.judging.proofs.columns.Columns.is_blank.Given as goal

abbrev pub invariant-loop-t : goal.invariant-loop-t
invariant-loop-t l =
    (l.t-end ≡ l.self.shape.k + 2) × (l.t ≤ l.t-end)
    × ((u : ℕ) → u < l.t → Zeros (shown l.self.shape.m l.self.shape.b l.self.map.places l.self.stripe.now l.self.bench.now u))
