-- `image::reading::copy_bodies` meets its contract. The loop's invariant: the columns below t are copied.
use Rattle.image.proofs.Copying.{copied_more}
use borrow.Author.Rules.{rules}
use Rattle.image.proofs.reading.copy_bodies.Goals as goal

pub loop-t-preserved : goal.loop-t-preserved
loop-t-preserved c =
    (search rules, copied_more _ _ _ _ _ _ _ c.loop-t.invariant.1 c.copy_body.ensures)
