-- What follows from the promise of the report. Each statement is a type, which proofs/Theorems inhabits.
--   ReportsOne       two reports that meet the promise are equal: the length, `out`, the stripe and the bench, and what was judged
--   AnswerAlone      of an image whose contents are refused, with 8, 1, 12 or 13, the text is the answer line alone
use Rattle.std.specs.Prelude.{◌≡◌, List, ℕ, ◌≤◌, length, take}
use Rattle.refusals.specs.declared.Refusal.{Refusal}
use Rattle.refusals.specs.Refusals.{number_of, refuse, Gives}
use Rattle.image.specs.Reads.{contents_rules}
use Rattle.judging.specs.Judgements.{longest}
use Rattle.report.specs.Lines.{answer_line}
use Rattle.report.specs.Reports.{Reports}

unfoldable pub ReportsOne : Type 0
ReportsOne = (image s bench before after after' benched benched' out out' : List ℕ) (r r' : ℕ)
    → (u : Reports image s after bench benched before out r) (v : Reports image s after' bench benched' before out' r')
    → (r ≡ r') × (out ≡ out') × (after ≡ after') × (benched ≡ benched') × (u.judgement ≡ v.judgement)

unfoldable pub AnswerAlone : Type 0
AnswerAlone = (image s after bench benched before out : List ℕ) (r : ℕ) (f : Refusal) → Reports image s after bench benched before out r
    → length image ≤ longest → Gives (contents_rules image) (refuse f) → take r out ≡ answer_line (number_of f)
