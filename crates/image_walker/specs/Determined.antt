-- The promises determine what is handed out, and what a whole walk hands out. Each statement is a type, which proofs/Determined inhabits, or proofs/Unread.
--   StepsOne           two answers that meet the promise of a step are equal
--   StepsUnread        two images of one length with the same bytes before the bodies get the same step: no byte of a body alters one
--   PartsOne           of two parts that meet the promise of `part_at`, block, place and bytes are the same
--   WalkersOne         two walkers over one image at one place are equal
--   StepTellsColumn    the part that a step found lies in the image, and is the column of every stripe whose image it is
--   WalkTellsColumns   walked to its end, a well-formed image hands out its present columns, in order, each once
--   WalkEnds           and of every well-formed image there is that walk
use Rattle.std.specs.Prelude.{◌≡◌, Bool, List, ℕ, ◌<◌, length, get_or, Option, Some, Result, Ok}
use Rattle.std.specs.Borrow.{Bor}
use Rattle.parity.specs.Shape.{Shape}
use Rattle.refusals.specs.declared.Refusal.{Refusal}
use Rattle.evenodd.specs.Shows.{PartOf}
use Rattle.evenodd.specs.Determined.{SamePart}
use Rattle.image.specs.Format.{bodies_at, body, WellFormed}
use Rattle.image.specs.Reads.{k_in}
use Rattle.image_walker.specs.declared.steps.Found.{Found}
use Rattle.image_walker.specs.declared.steps.Step.{Step}
use Rattle.image_walker.specs.declared.walker.Walker.{Walker}
use Rattle.image_walker.specs.Steps.{StepAt, PartAt}
use Rattle.image_walker.specs.Walks.{Walks, Walked, present_columns}

unfoldable pub StepsOne : Type 0
StepsOne = (image : List ℕ) (place : ℕ) (r q : Step) → StepAt image place r → StepAt image place q → r ≡ q

unfoldable pub StepsUnread : Type 0
StepsUnread = (image other : List ℕ) (place : ℕ) (r : Step) → ((x : ℕ) → get_or image x 0 < 256) → ((x : ℕ) → get_or other x 0 < 256)
    → length other ≡ length image → ((x : ℕ) → x < bodies_at (k_in image) → get_or other x 0 ≡ get_or image x 0) → StepAt image place r → StepAt other place r

unfoldable pub PartsOne : Type 0
PartsOne = (image : Bor (List ℕ)) (found : Result (Option Found) Refusal) (r q : Bor (List ℕ)) → PartAt image found r → PartAt image found q → SamePart r q

unfoldable pub WalkersOne : Type 0
WalkersOne = (image : Bor (List ℕ)) (place : ℕ) (w v : Walker) → Walks image place w → Walks image place v → w ≡ v

unfoldable pub StepTellsColumn : Type 0
StepTellsColumn = (image r : Bor (List ℕ)) (m k b place next : ℕ) (found : Found) (map : List Bool) → Shape m k b → (w : WellFormed m k b map image.now)
    → StepAt image.now place (record { found = Ok (Some found); next = next }) → PartAt image (Ok (Some found)) r
    → PartOf image found.start found.length r × (r.now ≡ body m b map w.stripe found.column)

unfoldable pub WalkTellsColumns : Type 0
WalkTellsColumns = (image : List ℕ) (m k b : ℕ) (map : List Bool) → Shape m k b → WellFormed m k b map image
    → (columns : List ℕ) → Walked image 0 columns → columns ≡ present_columns k map

unfoldable pub WalkEnds : Type 0
WalkEnds = (image : List ℕ) (m k b : ℕ) (map : List Bool) → Shape m k b → WellFormed m k b map image → Walked image 0 (present_columns k map)
