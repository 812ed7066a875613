-- `cells::exchange` meets its contract. The invariant: the first l bytes are exchanged, all others as they were.
use mathlib.Core.Path.{◌≡◌}
use Prim.Native.Nat.{◌≤◌}
use lib.ListN.{length, get_or}
use Rattle.cells.specs.Runs.{Exchanged}
use Rattle.cells.proofs.exchange.Given as goal

abbrev pub invariant-loop-l : goal.invariant-loop-l
invariant-loop-l it = (it.l ≤ length it.new) × (length it.w ≡ length it.initial.w) × Exchanged it.initial.w it.w it.at it.one it.two it.l (λ l. get_or it.new l 0)
