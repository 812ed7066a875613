-- The proofs of the statements in specs/Theorems: one judgement meets its promise, and the report is its text.
use mathlib.Core.Path.{◌≡◌, refl, sym, ap, ◌∙◌}
use lib.ListN.{length, take, drop}
use lib.Seq.{length-take-le}
use Rattle.judging.specs.Theorems.{JudgesImageOne}
use Rattle.judging.proofs.Theorems.{judges_image_one, joined}
use Rattle.report.specs.Reports.{text_of}
use Rattle.report.specs.Theorems.{ReportsOne, AnswerAlone}

pub reports_one : ReportsOne
unfolding ReportsOne JudgesImageOne
reports_one image s bench before after after' benched benched' out out' r r' u v =
    let (same, stripe, bytes) = judges_image_one image s bench after after' benched benched' _ _ u.judged v.judged in
    let text : take r out ≡ take r' out' = u.text ∙ rw (same, stripe, bytes) refl ∙ sym v.text in
    let size : r ≡ r' = sym (length-take-le r out u.within) ∙ ap length text ∙ length-take-le r' out' v.within in
    let rest : drop r' out ≡ drop r' out' = rw size at u.rest ∙ sym v.rest in
    (size, joined r' (rw size at text) rest, stripe, bytes, same)

pub answer_alone : AnswerAlone
unfolding AnswerAlone
answer_alone image s after bench benched before out r f h short told =
    h.text ∙ ap (λ j. text_of j after benched) (h.judged.bad short f told).outcome
