-- `report::writing::put_column` meets its contract: the column is the one that is meant, of the length of a column.
use mathlib.Core.Path.{ap₂}
use Rattle.inputs.proofs.ShapeLaws.{places_most}
use Rattle.report.specs.Lines.{column_line}
use Rattle.text.proofs.Writing.{wrote_same}
use native.Mathlib.Omega.{arith}
use Rattle.report.proofs.writing.put_column.Goals as goal

pub put_line-requires : goal.put_line-requires
put_line-requires c = omega (arith, places_most c.args.columns.held.shape, c.column.ensures.size)

pub returns : goal.returns
returns c =
    let line = c.put_line.ensures in
    (wrote_same line.0 (ap₂ (column_line c.args.t) c.is_present.ensures c.column.ensures.same), omega (arith, c.column.ensures.size))
