-- Why a call is refused, by number, and which refusal is given where several apply.
--   number_of r       the number of a refusal, as the table of refusal numbers has it
--   Verdict          a call passes, or is refused
--   verdict_of r      the verdict of a call's result: what it hands out is no part of it
--   answer_number v   the number of a verdict: 0 for a pass, otherwise the refusal's
--   Rule             a condition, and the refusal that it brings
--   Gives rules v    v is the refusal of the first rule whose condition holds, and a pass where none does
-- Of the items of a list, where item i is asked `rules i`:
--   EachPasses rules n            none of the first n is refused
--   FirstRefused rules n item f   of the first n, `item` is the first that is refused, with f
use Rattle.std.specs.Prelude.{◌≡◌, ◌⊎◌, List, [], ◌∷◌, ℕ, ◌<◌, Result, Ok, Err}
use Rattle.refusals.specs.declared.Refusal.{Refusal}
use Rattle.refusals.specs.declared.Refusal.TheVariants.{WrongM, StripeLength, BenchLength, Ambiguous, Contradicted, Unmendable, NoSuchColumn, Malformed, StrayColumn, TooLong, NoSuchRow, WrongK, WrongB, CellLength, WrongLists, ShortBuffer, LyingMap}

abbrev pub number_of : Refusal → ℕ
number_of WrongM = 1
number_of StripeLength = 2
number_of BenchLength = 3
number_of Ambiguous = 4
number_of Contradicted = 5
number_of Unmendable = 6
number_of NoSuchColumn = 7
number_of Malformed = 8
number_of StrayColumn = 9
number_of TooLong = 10
number_of NoSuchRow = 11
number_of WrongK = 12
number_of WrongB = 13
number_of CellLength = 14
number_of WrongLists = 15
number_of ShortBuffer = 16
number_of LyingMap = 17

pub data Verdict : Type 0 where
  pass : Verdict
  refuse : Refusal → Verdict

abbrev pub verdict_of : {T : Type 0} → Result T Refusal → Verdict
verdict_of (Ok x) = pass
verdict_of (Err f) = refuse f

abbrev pub answer_number : Verdict → ℕ
answer_number pass = 0
answer_number (refuse r) = number_of r

pub record Rule : Type 1 where
  pub condition : Type 0
  pub refusal : Refusal

abbrev pub Gives : List Rule → Verdict → Type 0
Gives [] v = v ≡ pass
Gives (r ∷ rules) v = (r.condition × (v ≡ refuse r.refusal)) ⊎ ((r.condition → ⊥) × Gives rules v)

abbrev pub EachPasses : (ℕ → List Rule) → ℕ → Type 0
EachPasses rules n = (i : ℕ) → i < n → Gives (rules i) pass

pub record FirstRefused (rules : ℕ → List Rule) (n item : ℕ) (f : Refusal) : Type 0 where
  pub inside : item < n
  pub before : EachPasses rules item
  pub refused : Gives (rules item) (refuse f)
