-- `image_walker::steps::step_at` meets its contract: what the contents say is carried on, and the column is found by their map.
use native.Mathlib.Omega.{arith}
use Rattle.std.specs.Prelude.{Some}
use Rattle.parity.specs.Shape.{column_length}
use Rattle.inputs.proofs.ShapeLaws.{column_most, places_most}
use Rattle.image.proofs.Filling.{good_contents}
use Rattle.image_walker.proofs.Stepping.{step_found}
use Rattle.image_walker.proofs.steps.step_at.Goals as goal

pub find_from-requires : goal.find_from-requires
unfolding column_length
find_from-requires c = let s = (good_contents _ _ c.in-Ok.ensures).shape in (places_most s, column_most s)

pub returns-in-Some : goal.returns-in-Some
unfolding column_length
returns-in-Some c = step_found _ _ (good_contents _ _ c.in-Ok.ensures) (Some _) (omega (arith, c.if-k-place.false)) c.in-Some.ensures
