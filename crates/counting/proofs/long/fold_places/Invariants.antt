-- `counting::long::fold_places` meets its contract. The invariant: o has gathered the lanes before j. The last block may gather some of them again.
use mathlib.Core.Path.{◌≡◌}
use Prim.Native.Nat.{◌≤◌}
use lib.ListN.{length, get_or}
use Rattle.parity.specs.Xor.{◌⊕◌}
use Rattle.lines.specs.Places.{total}
use Rattle.counting.specs.Gather.{Gathered}
use Rattle.counting.proofs.long.fold_places.Given as goal

abbrev pub invariant-loop-j : goal.invariant-loop-j
invariant-loop-j it =
    (it.j ≤ it.b) × (length it.acc ≡ 128) × (length it.o ≡ 16) × Gathered it.initial.o it.o it.j (λ l. get_or it.seed l 0 ⊕ total it.at (length it.at) it.s l)
