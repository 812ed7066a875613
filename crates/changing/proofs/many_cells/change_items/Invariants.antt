-- `changing::change_items` meets its contract. The invariant: once paid, the first n items are changed.
use Rattle.parity.specs.Change.{CellsChanged}
use Rattle.changing.specs.Owed.{OncePaid}
use Rattle.changing.proofs.many_cells.change_items.Given as goal

abbrev pub invariant-loop-n : goal.invariant-loop-n
invariant-loop-n l =
    OncePaid l.g.m l.g.k l.b l.initial.owed l.initial.s l.owed l.s (CellsChanged l.g.m l.g.k l.b l.columns l.rows l.cells l.n)
