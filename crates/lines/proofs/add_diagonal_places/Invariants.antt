-- `lines::add_diagonal_places` meets its contract. The invariant: the diagonal's cells in the columns below t are listed, and r is its row in column t.
use mathlib.Core.Path.{◌≡◌}
use Prim.Native.Nat.{◌≤◌}
use Rattle.parity.specs.Equations.{back}
use Rattle.lines.specs.Places.{LineListed}
use Rattle.lines.proofs.Places.{up_to}
use Rattle.lines.proofs.add_diagonal_places.Given as goal

abbrev pub invariant-loop-t : goal.invariant-loop-t
invariant-loop-t l =
    (l.columns.from ≤ l.t) × (l.t ≤ l.columns.to) × (l.r ≡ back l.g.m l.i l.t) × LineListed l.g 1 l.i (up_to l.columns l.t) l.n l.x l.initial.at l.at
