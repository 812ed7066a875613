-- `judging::judge_image` meets its contract: each way out is one of its three cases.
use mathlib.Core.Path.{refl}
use Rattle.refusals.proofs.Rules.{handed_on}
use Rattle.judging.proofs.Judged.{image_long, image_bad, image_formed}
use native.Mathlib.Omega.{arith}
use Rattle.judging.proofs.judge_image.Goals as goal

pub returns-then-image-gt16384 : goal.returns-then-image-gt16384
returns-then-image-gt16384 c = image_long (omega arith) refl refl

pub returns-in_err-shape : goal.returns-in_err-shape
returns-in_err-shape c =
    rw (handed_on c.from_residual.result c.from_residual.ensures.1) (image_bad (omega arith) _ c.in_err-shape.ensures refl refl)

pub returns : goal.returns
returns c = image_formed (omega arith) _ _ c.in_ok-shape.ensures _ c.judge_formed-outcome.ensures
