-- What is told of the input.
--   Failure     the answer 8 alone; neither the stripe nor the bench is written
--   Told        the report of what was read; of a read that failed, the answer 8
--   TellsInput  the first r bytes of `out` are that text, and the rest of it stays
use Rattle.std.specs.Prelude.{◌≡◌, List, ℕ, ◌≤◌, length, take, drop, Result, Ok, Err}
use Rattle.std.specs.declared.io.Error.{Error}
use Rattle.refusals.specs.Refusals.{number_of}
use Rattle.refusals.specs.declared.Refusal.TheVariants.{Malformed}
use Rattle.report.specs.Lines.{answer_line}
use Rattle.report.specs.Reports.{Reports}
use Rattle.shelf.specs.declared.reading.Input.{Input}
use Rattle.shelf.specs.declared.reading.Input.TheVariants.{More, Whole}

pub record Failure (s after bench benched out : List ℕ) (r : ℕ) : Type 0 where
  pub text : take r out ≡ answer_line (number_of Malformed)
  pub whole : after ≡ s
  pub spare : benched ≡ bench

abbrev pub Told : Result Input Error → List ℕ → List ℕ → List ℕ → List ℕ → List ℕ → List ℕ → List ℕ → ℕ → Type 0
Told (Ok (More n)) buf s after bench benched before out r = Reports (take n buf) s after bench benched before out r
Told (Ok (Whole n)) buf s after bench benched before out r = Reports (take n buf) s after bench benched before out r
Told (Err e) buf s after bench benched before out r = Failure s after bench benched out r

pub record TellsInput (input : Result Input Error) (buf s after bench benched before out : List ℕ) (r : ℕ) : Type 0 where
  pub within : r ≤ length out
  pub told : Told input buf s after bench benched before out r
  pub rest : drop r out ≡ drop r before
