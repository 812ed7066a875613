-- The report of an image: the text that the program prints.
--   complete_text    the shape, a line for each column, and the answer 0, of a blank stripe with that word
--   refused_text     the shape and the answer only
--   outcome_text     the text of each outcome, where the stripe and the bench hold what was judged; where too little was lent, the answer only
--   text_of          the text of a judgement: that of its outcome; refused without a shape, the answer only
--   Tellable        the columns can be shown, and the text has room
--   Reports         the first r bytes of `out` are the text of what is judged of the image, and the rest of it stays
use Rattle.std.specs.Prelude.{◌≡◌, Bool, true, false, List, ◌++◌, ℕ, ◌+◌, ◌*◌, ◌≤◌, length, take, drop, Result, Ok, Err}
use Rattle.parity.specs.Shape.{column_length}
use Rattle.maps.specs.declared.Map.{Map}
use Rattle.refusals.specs.declared.Refusal.{Refusal}
use Rattle.refusals.specs.declared.Refusal.TheVariants as refusal
use Rattle.refusals.specs.Refusals.{refuse, answer_number}
use Rattle.inputs.specs.declared.shapes.Shape.{Shape}
use Rattle.judging.specs.declared.Outcome.{Outcome}
use Rattle.judging.specs.declared.Outcome.TheVariants.{Complete, Blank, Ambiguous, Contradicted}
use Rattle.judging.specs.declared.Judgement.{Judgement}
use Rattle.judging.specs.Shown.{shown, Held}
use Rattle.report.specs.Lines.{shape_line, column_lines, answer_line, done_line}
use Rattle.judging.specs.Judgements.{stripe_of, bench_of, JudgesImage}

abbrev pub refused_text : Shape → Refusal → List ℕ
refused_text shape f = shape_line shape.m shape.k shape.b ++ answer_line (answer_number (refuse f))

abbrev pub complete_text : Shape → Map → List ℕ → List ℕ → Bool → List ℕ
complete_text shape map s bench blank =
    shape_line shape.m shape.k shape.b
    ++ column_lines (shape.k + 2) map.places (shown shape.m shape.b map.places (take (stripe_of shape) s) (take (bench_of shape) bench))
    ++ done_line blank

abbrev pub outcome_text : Result Outcome Refusal → Shape → Map → List ℕ → List ℕ → List ℕ
outcome_text (Ok Complete) shape map s bench = complete_text shape map s bench false
outcome_text (Ok Blank) shape map s bench = complete_text shape map s bench true
outcome_text (Ok Ambiguous) shape map s bench = refused_text shape refusal.Ambiguous
outcome_text (Ok Contradicted) shape map s bench = refused_text shape refusal.Contradicted
outcome_text (Err f) shape map s bench = answer_line (answer_number (refuse f))

abbrev pub text_of : Result Judgement Refusal → List ℕ → List ℕ → List ℕ
text_of (Ok j) s bench = outcome_text j.outcome j.shape j.map s bench
text_of (Err f) s bench = answer_line (answer_number (refuse f))

pub record Tellable (shape : Shape) (map : Map) (s bench : List ℕ) (room : ℕ) : Type 0 where
  pub held : Held shape.m shape.k shape.b map (take (stripe_of shape) s) (take (bench_of shape) bench)
  pub long : stripe_of shape ≤ length s
  pub spare : bench_of shape ≤ length bench
  pub fits : 36 + (shape.k + 2) * (15 + 2 * column_length shape.m shape.b) ≤ room

pub record Reports (image s after bench benched before out : List ℕ) (r : ℕ) : Type 0 where
  pub judgement : Result Judgement Refusal
  pub judged : JudgesImage image s after bench benched judgement
  pub within : r ≤ length out
  pub text : take r out ≡ text_of judgement after benched
  pub rest : drop r out ≡ drop r before
