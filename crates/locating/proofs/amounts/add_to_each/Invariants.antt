-- `locating::amounts::add_to_each` meets its contract. The invariant: the bytes so far are added to, the others as they were.
use lib.ListN.{get_or}
use Rattle.parity.specs.Xor.{◌⊕◌}
use Rattle.cells.specs.Runs.{Put}
use Rattle.locating.proofs.amounts.add_to_each.Given as goal

abbrev pub invariant-loop-byte : goal.invariant-loop-byte
invariant-loop-byte it = Put it.initial.d it.d 0 it.byte-index (λ l. get_or it.initial.d l 0 ⊕ it.v)
