-- `cells::copy_into` meets its contract. The invariant: the bytes before j are those of src.
use lib.ListN.{get_or}
use Rattle.cells.specs.Runs.{Put}
use Rattle.cells.proofs.copy_into.Given as goal

abbrev pub invariant-loop-j : goal.invariant-loop-j
invariant-loop-j it = Put it.initial.dst it.dst 0 it.j (λ l. get_or it.src l 0)
