-- `judging::columns::Columns::column` meets its contract: show refuses no column.
use Rattle.judging.proofs.Shown.{held_shown}
use Rattle.judging.proofs.columns.Columns.column.Goals as goal

pub returns : goal.returns
returns c = held_shown c.args.self.stripe c.args.self.bench c.args.self.held c.requires c.show.result c.show.ensures
