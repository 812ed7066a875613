-- `lines::add_row_places` meets its contract. The invariant: the row's cells in the columns below t are listed.
use Prim.Native.Nat.{◌≤◌}
use Rattle.lines.specs.Places.{LineListed}
use Rattle.lines.proofs.Places.{up_to}
use Rattle.lines.proofs.add_row_places.Given as goal

abbrev pub invariant-loop-t : goal.invariant-loop-t
invariant-loop-t l = (l.columns.from ≤ l.t) × (l.t ≤ l.columns.to) × LineListed l.g 0 l.i (up_to l.columns l.t) l.n l.x l.initial.at l.at
