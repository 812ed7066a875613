-- `counting::long::count_folded` meets its contract. The invariant: what was found of the lines before d.
use mathlib.Core.Path.{◌≡◌}
use Prim.Native.Nat.{◌-◌, ◌≤◌}
use lib.ListN.{length, get_or}
use Rattle.parity.specs.Xor.{◌⊕◌}
use Rattle.counting.specs.Counting.{test_line, Found}
use Rattle.counting.proofs.Found.{seen}
use Rattle.counting.proofs.long.count_folded.Given as goal

abbrev pub invariant-loop-d : goal.invariant-loop-d
invariant-loop-d it =
    (length it.at ≡ length it.initial.at) × (it.d-end ≡ it.g.m - 1) × (it.d ≤ it.d-end)
    × Found it.enough it.d it.g.b (λ l d. get_or it.seed l 0 ⊕ test_line it.g it.s it.u d l) (seen it.count it.last)
