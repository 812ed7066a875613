-- `image::table::state_of` meets its contract: where its tests pass, the entry is right.
use Rattle.image.specs.Entries.{says_present}
use borrow.Author.Rules.{rules}
use Rattle.image.proofs.table.state_of.Goals as goal

pub returns-in-1 : goal.returns-in-1
unfolding says_present
returns-in-1 c = search rules

pub returns-in-0 : goal.returns-in-0
unfolding says_present
returns-in-0 c = search rules
