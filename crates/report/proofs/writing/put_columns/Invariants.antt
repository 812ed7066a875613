-- `report::writing::put_columns` meets its contract. The invariant: the lines of the columns before t are written.
use mathlib.Core.Path.{◌≡◌}
use Prim.Native.Nat.{◌+◌, ◌*◌, ◌≤◌}
use Rattle.parity.specs.Shape.{column_length}
use Rattle.text.specs.Text.{Wrote}
use Rattle.judging.specs.Shown.{shown}
use Rattle.report.specs.Lines.{column_lines}
use Rattle.report.proofs.writing.put_columns.Given as goal

abbrev pub invariant-loop-t : goal.invariant-loop-t
invariant-loop-t l =
    (l.t-end ≡ l.columns.shape.k + 2) × (l.t ≤ l.t-end) × Wrote l.initial.out l.out l.at l.next (column_lines l.t l.columns.map.places (shown l.columns.shape.m l.columns.shape.b l.columns.map.places l.columns.stripe.now l.columns.bench.now))
    × (l.next ≤ l.at + l.t * (15 + 2 * column_length l.columns.shape.m l.columns.shape.b))
