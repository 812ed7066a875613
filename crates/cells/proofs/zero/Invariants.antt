-- `cells::zero` meets its contract. The invariant: the bytes so far are 0, the others as they were.
use Rattle.cells.specs.Runs.{Put}
use Rattle.cells.proofs.zero.Given as goal

abbrev pub invariant-loop-byte : goal.invariant-loop-byte
invariant-loop-byte it = Put it.initial.acc it.acc 0 it.byte-index (λ l. 0)
