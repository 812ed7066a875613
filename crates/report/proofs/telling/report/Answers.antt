-- `report::telling::report` meets its contract: each outcome has its text, which has room since the image is short.
use mathlib.Core.Logic.{inl, inr}
use native.Mathlib.Omega.{arith}
use Rattle.report.proofs.Told.{Told, told, told_fits, outcome_is, tellable}
use Rattle.report.proofs.telling.report.Goals as goal
use Rattle.report.proofs.telling.report.Goals.{In-Ok}

known : (c : In-Ok) → Told c.args.image.now c.args.stripe.now c.judge_image.new.stripe c.args.bench.now c.judge_image.new.bench c.in-Ok.field-0
known c = told c.in-Ok.field-0 c.in-Ok.ensures

pub put_complete-requires : goal.put_complete-requires
put_complete-requires c = tellable (known (goal.at.put_complete-requires c).In-Ok) _ c.requires (inl (outcome_is c.in-Ok-Complete.is (rw c.in-Ok-Complete.is at c.in-Ok-Complete.field-0-is)))

pub put_complete-requires-in-Ok-Blank : goal.put_complete-requires-in-Ok-Blank
put_complete-requires-in-Ok-Blank c = tellable (known (goal.at.put_complete-requires-in-Ok-Blank c).In-Ok) _ c.requires (inr (outcome_is c.in-Ok-Blank.is (rw c.in-Ok-Blank.is at c.in-Ok-Blank.field-0-is)))

pub put_refused-requires : goal.put_refused-requires
put_refused-requires c =
    let (m, k, b) = told_fits (known (goal.at.put_refused-requires c).In-Ok) in (m, k, b, omega arith)

pub put_refused-requires-in-Ok-Contradicted : goal.put_refused-requires-in-Ok-Contradicted
put_refused-requires-in-Ok-Contradicted c =
    let (m, k, b) = told_fits (known (goal.at.put_refused-requires-in-Ok-Contradicted c).In-Ok) in (m, k, b, omega arith)
