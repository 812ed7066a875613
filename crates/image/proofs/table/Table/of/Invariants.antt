-- `image::table::Table::of` meets its contract. The loop's invariant: the entries below t are right, and the table is what they say.
use Prim.Native.Nat.{◌≤◌}
use Rattle.image.specs.Entries.{entry_at, Reached}
use Rattle.image.proofs.table.Table.of.Given as goal

abbrev pub invariant-loop-t : goal.invariant-loop-t
invariant-loop-t l = (l.t ≤ l.columns) × Reached l.image (entry_at l.columns) l.column l.t l.table
