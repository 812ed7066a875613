-- What each call for C gives: there is an answer of the call below it that meets its promise, and the number and the results are that
-- answer's. The parameters are the arguments, then the results, then the number.
--   EncodeGives, CheckGives, RestoreGives, LocateGives, RewriteGives, ChangeGives, ChangesGives, ShowGives, ContentsGives, ReadGives,
--   WriteGives, WalkGives
--   ContentsWritten      what contents and read write, of their answer: its map, a new one where it is refused, and its shape
--   GapsGives            what the map of these bytes keeps, and its absent places below k + 2; it is never refused
--   StripeLengthGives    the bytes of a stripe; 0 where the three numbers are no shape
--   BenchLengthGives     the bytes of a bench; 0 where m or b is not as a shape's. k is not asked
use Rattle.std.specs.Prelude.{◌≡◌, List, ℕ, ◌+◌, ◌≤◌, Result, ⊤}
use Rattle.parity.specs.Shape.{OddPrime, Shape, stripe_length, bench_length}
use Rattle.checking.specs.declared.checks.Checked.{Checked}
use Rattle.maps.specs.declared.Gaps.{Gaps}
use Rattle.maps.specs.declared.Map.{Map}
use Rattle.checking.specs.declared.locates.Located.{Located}
use Rattle.evenodd.specs.declared.shows.Place.{Place}
use Rattle.refusals.specs.declared.Refusal.{Refusal}
use Rattle.refusals.specs.Refusals.{verdict_of, answer_number}
use Rattle.inputs.specs.declared.lists.ListRefusal.{ListRefusal}
use Rattle.maps.specs.Maps.{OfBytes, AsBytes, FindsGaps}
use Rattle.evenodd.specs.Encodes.{Encodes}
use Rattle.checking.specs.Checks.{Checks, rows_of, diagonals_of}
use Rattle.checking.specs.Checks as checks
use Rattle.evenodd.specs.Restores.{Restores, count_of, first_of, second_of}
use Rattle.checking.specs.Locates.{Locates, column_of}
use Rattle.checking.specs.Locates as locates
use Rattle.evenodd.specs.Rewrites.{Rewrites}
use Rattle.evenodd.specs.Changes.{Changes}
use Rattle.evenodd.specs.ChangesAll.{ChangesAll, item_of}
use Rattle.evenodd.specs.ChangesAll as all
use Rattle.evenodd.specs.Shows.{Places, from_bench_of, start_of, length_of}
use Rattle.image.specs.declared.answers.Contents.{Contents}
use Rattle.image.specs.Reads.{ContentsOf, ReadInto, MapOf, m_of, k_of, b_of}
use Rattle.image_writer.specs.Writes.{Writes}
use Rattle.image_writer.specs.Writes as writes
use Rattle.image_walker.specs.declared.steps.Step.{Step}
use Rattle.image_walker.specs.Steps.{StepAt}
use Rattle.image_walker.specs.Steps as steps

pub record EncodeGives (m k b : ℕ) (before after : List ℕ) (r : ℕ) : Type 0 where
  pub answer : Result ⊤ Refusal
  pub meets : Encodes m k b before after answer
  pub number : r ≡ answer_number (verdict_of answer)

pub record CheckGives (m k b : ℕ) (s : List ℕ) (x y z r : ℕ) : Type 0 where
  pub answer : Result Checked Refusal
  pub meets : Checks m k b s answer
  pub rows : x ≡ rows_of answer
  pub diagonals : y ≡ diagonals_of answer
  pub found : z ≡ checks.found_of answer
  pub number : r ≡ answer_number (verdict_of answer)

pub record RestoreGives (m k b : ℕ) (places s before after : List ℕ) (n x y r : ℕ) : Type 0 where
  pub map : Map
  pub marked : OfBytes places map
  pub answer : Result Gaps Refusal
  pub meets : Restores m k b map s before after answer
  pub count : n ≡ count_of answer
  pub first : x ≡ first_of answer
  pub second : y ≡ second_of answer
  pub number : r ≡ answer_number (verdict_of answer)

pub record LocateGives (m k b : ℕ) (s : List ℕ) (x y r : ℕ) : Type 0 where
  pub answer : Result Located Refusal
  pub meets : Locates m k b s answer
  pub found : x ≡ locates.found_of answer
  pub column : y ≡ column_of answer
  pub number : r ≡ answer_number (verdict_of answer)

pub record RewriteGives (m k b : ℕ) (before after : List ℕ) (column r : ℕ) : Type 0 where
  pub answer : Result ⊤ Refusal
  pub meets : Rewrites m k b column before after answer
  pub number : r ≡ answer_number (verdict_of answer)

pub record ChangeGives (m k b : ℕ) (before after : List ℕ) (column row : ℕ) (cell : List ℕ) (r : ℕ) : Type 0 where
  pub answer : Result ⊤ Refusal
  pub meets : Changes m k b column row cell before after answer
  pub number : r ≡ answer_number (verdict_of answer)

pub record ChangesGives (m k b : ℕ) (before after columns rows cells : List ℕ) (x r : ℕ) : Type 0 where
  pub answer : Result ⊤ ListRefusal
  pub meets : ChangesAll m k b columns rows cells before after answer
  pub item : x ≡ item_of answer
  pub number : r ≡ answer_number (all.verdict_of answer)

pub record ShowGives (m k b : ℕ) (places s bench : List ℕ) (column x y n r : ℕ) : Type 0 where
  pub map : Map
  pub marked : OfBytes places map
  pub answer : Result Place Refusal
  pub meets : Places m k b map s bench column answer
  pub from : x ≡ from_bench_of answer
  pub start : y ≡ start_of answer
  pub length : n ≡ length_of answer
  pub number : r ≡ answer_number (verdict_of answer)

pub record ContentsWritten (answer : Result Contents Refusal) (places : List ℕ) (x y z r : ℕ) : Type 0 where
  pub map : Map
  pub own : MapOf answer map
  pub marks : AsBytes map places
  pub m : x ≡ m_of answer
  pub k : y ≡ k_of answer
  pub b : z ≡ b_of answer
  pub number : r ≡ answer_number (verdict_of answer)

pub record ContentsGives (image places : List ℕ) (x y z r : ℕ) : Type 0 where
  pub answer : Result Contents Refusal
  pub meets : ContentsOf image answer
  pub written : ContentsWritten answer places x y z r

pub record ReadGives (image before after places : List ℕ) (x y z r : ℕ) : Type 0 where
  pub answer : Result Contents Refusal
  pub meets : ReadInto image before after answer
  pub written : ContentsWritten answer places x y z r

pub record WriteGives (m k b : ℕ) (places s before after : List ℕ) (n r : ℕ) : Type 0 where
  pub map : Map
  pub marked : OfBytes places map
  pub answer : Result ℕ Refusal
  pub meets : Writes m k b map s before after answer
  pub length : n ≡ writes.length_of answer
  pub number : r ≡ answer_number (verdict_of answer)

pub record WalkGives (image : List ℕ) (place next x y n r : ℕ) : Type 0 where
  pub answer : Step
  pub meets : StepAt image place answer
  pub moved : next ≡ answer.next
  pub column : x ≡ steps.column_of answer.found
  pub start : y ≡ steps.start_of answer.found
  pub length : n ≡ steps.length_of answer.found
  pub number : r ≡ answer_number (verdict_of answer.found)

pub record GapsGives (k : ℕ) (places : List ℕ) (n h x y z r : ℕ) : Type 0 where
  pub map : Map
  pub marked : OfBytes places map
  pub answer : Gaps
  pub meets : FindsGaps map (k + 2) answer
  pub present : n ≡ map.present
  pub highest : h ≡ map.highest
  pub absent : x ≡ answer.count
  pub first : y ≡ answer.first
  pub second : z ≡ answer.second
  pub number : r ≡ 0

pub record StripeLengthGives (m k b r : ℕ) : Type 0 where
  pub good : Shape m k b → r ≡ stripe_length m k b
  pub bad : (Shape m k b → ⊥) → r ≡ 0

pub record BenchLengthGives (m b r : ℕ) : Type 0 where
  pub good : OddPrime m × (1 ≤ b) × (b ≤ 4096) → r ≡ bench_length m b
  pub bad : (OddPrime m × (1 ≤ b) × (b ≤ 4096) → ⊥) → r ≡ 0
