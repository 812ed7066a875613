-- `evenodd::many_cells::changes` meets its contract: a law of changes for each way out, from what the tests on the way there said.
use lib.ListN.{length}
use Rattle.inputs.proofs.CellLists.{ListNumbers, lists_good}
use Rattle.lines.proofs.Whole.{laid}
use Rattle.evenodd.proofs.ManyChanged.{items_refused, all_named, all_changed}
use Rattle.evenodd.proofs.many_cells.changes.Goals as goal
use Rattle.evenodd.proofs.many_cells.changes.Goals.{In_ok-column}

good : (c : In_ok-column) → ListNumbers c.args.shape.m c.args.shape.k c.args.shape.b (length c.args.stripe.now) (length c.args.columns.now) (length c.args.rows.now) (length c.args.cells.now) c.in_ok-column.column
good c = lists_good _ _ _ _ _ _ _ c.in_ok-column.ensures

pub returns-in_err-judge_items : goal.returns-in_err-judge_items
returns-in_err-judge_items c =
    let n = good (goal.at.returns-in_err-judge_items c).In_ok-column in
    let a = c.args in
    items_refused a.shape.m a.shape.k a.shape.b a.columns.now a.rows.now a.cells.now a.stripe.now n.numbers.shape n.numbers.stripe n.lists
    _ _ c.from_residual-in_err-judge_items.ensures.1 c.in_err-judge_items.ensures

pub change_cells-requires : goal.change_cells-requires
change_cells-requires c =
    let n = good (goal.at.change_cells-requires c).In_ok-column in
    let a = c.args in (
      laid n.numbers.shape n.numbers.column n.numbers.stripe,
      record {
        few = n.lists.few;
        even = n.lists.even;
        full = n.lists.full;
        inside = all_named a.shape.m a.shape.k a.shape.b a.columns.now a.rows.now a.cells.now a.stripe.now n.numbers.shape n.numbers.stripe n.lists c.in_ok-judge_items.ensures;
      },
    )

pub returns : goal.returns
returns c =
    let n = good (goal.at.returns c).In_ok-column in
    let a = c.args in
    all_changed a.shape.m a.shape.k a.shape.b a.columns.now a.rows.now a.cells.now a.stripe.now n.numbers.shape n.numbers.stripe n.lists c.in_ok-judge_items.ensures
    _ c.change_cells.ensures
