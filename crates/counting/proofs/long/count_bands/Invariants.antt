-- `counting::long::count_bands` meets its contract. The invariant: what was found of the lines before `first`; and the cell at `seed` is as it was.
use mathlib.Core.Path.{◌≡◌}
use Prim.Native.Nat.{ℕ, ◌+◌, ◌-◌, ◌≤◌, ◌<◌}
use lib.ListN.{length, get_or}
use Rattle.parity.specs.Xor.{◌⊕◌}
use Rattle.counting.specs.Counting.{test_line, Found}
use Rattle.counting.proofs.Found.{seen}
use Rattle.counting.proofs.long.count_bands.Given as goal

abbrev pub invariant-loop-first : goal.invariant-loop-first
invariant-loop-first it =
    (length it.at ≡ length it.initial.at) × (length it.w ≡ length it.initial.w) × (it.first ≤ it.g.m - 1)
    × ((l : ℕ) → l < it.g.b → get_or it.w (it.seed + l) 0 ≡ get_or it.initial.w (it.seed + l) 0)
    × Found it.enough it.first it.g.b (λ l d. get_or it.initial.w (it.seed + l) 0 ⊕ test_line it.g it.s it.u d l) (seen it.count it.last)
