-- `image::numbers::four` meets its contract: both halves are below 65,536.
use Rattle.image.specs.Entries.{number4}
use borrow.Author.Rules.{rules}
use Rattle.image.proofs.numbers.four.Goals as goal

pub returns : goal.returns
unfolding number4
returns c = search rules
