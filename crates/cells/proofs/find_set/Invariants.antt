-- `cells::find_set` meets its contract. The invariant: the bytes so far are zero, as those are that were skipped.
use mathlib.Core.Path.{◌≡◌}
use Prim.Native.Nat.{ℕ, ◌+◌, ◌<◌}
use lib.ListN.{get_or}
use Rattle.cells.proofs.find_set.Given as goal

abbrev pub invariant-loop-n : goal.invariant-loop-n
invariant-loop-n it = (l : ℕ) → l < it.skipped + it.n → get_or it.x l 0 ≡ 0
