-- `maps::larger` meets its contract, by its test.
use borrow.Author.Tests.{lt-ltb, le-ltb}
use Rattle.maps.proofs.larger.Goals as goal

pub returns-then-x-y : goal.returns-then-x-y
returns-then-x-y c = rw (lt-ltb _ _ c.if-x-y.true)

pub returns-else-x-y : goal.returns-else-x-y
returns-else-x-y c = rw (le-ltb _ _ c.if-x-y.false)
