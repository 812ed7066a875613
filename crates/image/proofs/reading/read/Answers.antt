-- `image::reading::read` meets its contract: what the contents say is carried on, and the bodies are copied where the stripe has the length.
use native.Mathlib.Omega.{arith}
use Rattle.parity.specs.Shape.{column_length, stripe_length}
use Rattle.image.proofs.Formed.{formed_bodies}
use Rattle.image.proofs.Filling.{good_contents, read_length, read_good}
use Rattle.image.proofs.reading.read.Goals as goal

pub returns-then-stripe-columns : goal.returns-then-stripe-columns
unfolding column_length stripe_length
returns-then-stripe-columns c = read_length _ _ _ c.in_ok-found.ensures c.if-stripe-columns.true

pub copy_bodies-requires : goal.copy_bodies-requires
unfolding column_length
copy_bodies-requires c =
    let g = good_contents _ _ c.in_ok-found.ensures in
    (formed_bodies g.shape _ _ g.formed, omega (arith, c.if-stripe-columns.false))

pub returns : goal.returns
unfolding column_length stripe_length
returns c = read_good _ _ _ c.in_ok-found.ensures c.if-stripe-columns.false c.copy_bodies.ensures
