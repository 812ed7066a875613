-- What a step over an image finds.
--   past_the_end k place            8: the place is above k + 2
--   walk_rules image place         the refusals of a step, in order: those of `contents` (8, 1, 12, 13, 8), then 8 for the place
--   column_of, start_of, length_of   its column, and from which byte on it has so many: 129 0 0 at the end and where it is refused
--   AbsentFrom place n map        no column from the place on and below n is present
--   FirstPresent                  the column is the image's first present one at or after the place, and so many bytes from `start` on are its body
--   NonePresent                   the image has no present column at or after the place
--   Finds                         what is found from the place on, and the place after it
--   StepAt image place r          what a step from the place answers: the first present column and the place after it; the end and the place k + 2; or, refused,
--                                 the same place
--   PartAt image found r          r is the part of the image that was found; an empty one at its start, where the image has no such part
use Rattle.std.specs.Prelude.{◌≡◌, Bool, true, false, List, [], ◌∷◌, ◌++◌, ℕ, ◌+◌, ◌≤◌, ◌<◌, length, Option, Some, None, Result, Ok, Err}
use Rattle.std.specs.Borrow.{Bor}
use Rattle.parity.specs.Shape.{column_length}
use Rattle.parity.specs.Presence.{present}
use Rattle.refusals.specs.declared.Refusal.{Refusal}
use Rattle.refusals.specs.declared.Refusal.TheVariants.{Malformed}
use Rattle.refusals.specs.Refusals.{verdict_of, Rule, Gives}
use Rattle.evenodd.specs.Shows.{PartOf}
use Rattle.image.specs.Format.{offset, WellFormed}
use Rattle.image.specs.Reads.{m_in, k_in, b_in, contents_rules}
use Rattle.image_walker.specs.declared.steps.Found.{Found}
use Rattle.image_walker.specs.declared.steps.Step.{Step}

abbrev pub past_the_end : ℕ → ℕ → Rule
past_the_end k place = record { condition = k + 2 < place; refusal = Malformed }

abbrev pub walk_rules : List ℕ → ℕ → List Rule
walk_rules image place = contents_rules image ++ (past_the_end (k_in image) place ∷ [])

abbrev pub column_of : Result (Option Found) Refusal → ℕ
column_of (Ok (Some r)) = r.column
column_of (Ok None) = 129
column_of (Err f) = 129

abbrev pub start_of : Result (Option Found) Refusal → ℕ
start_of (Ok (Some r)) = r.start
start_of (Ok None) = 0
start_of (Err f) = 0

abbrev pub length_of : Result (Option Found) Refusal → ℕ
length_of (Ok (Some r)) = r.length
length_of (Ok None) = 0
length_of (Err f) = 0

abbrev pub AbsentFrom : ℕ → ℕ → List Bool → Type 0
AbsentFrom place n map = (t : ℕ) → place ≤ t → t < n → present map t ≡ false

pub record FirstPresent (image : List ℕ) (place column start n : ℕ) : Type 0 where
  pub map : List Bool
  pub formed : WellFormed (m_in image) (k_in image) (b_in image) map image
  pub order : place ≤ column
  pub inside : column < k_in image + 2
  pub there : present map column ≡ true
  pub before : AbsentFrom place column map
  pub begins : start ≡ offset (m_in image) (k_in image) (b_in image) map column
  pub size : n ≡ column_length (m_in image) (b_in image)

pub record NonePresent (image : List ℕ) (place : ℕ) : Type 0 where
  pub map : List Bool
  pub formed : WellFormed (m_in image) (k_in image) (b_in image) map image
  pub none : AbsentFrom place (k_in image + 2) map

abbrev pub Finds : List ℕ → ℕ → Result (Option Found) Refusal → ℕ → Type 0
Finds image place (Ok (Some r)) next = FirstPresent image place r.column r.start r.length × (next ≡ r.column + 1)
Finds image place (Ok None) next = NonePresent image place × (next ≡ k_in image + 2)
Finds image place (Err f) next = next ≡ place

pub record StepAt (image : List ℕ) (place : ℕ) (r : Step) : Type 0 where
  pub told : Gives (walk_rules image place) (verdict_of r.found)
  pub finds : Finds image place r.found r.next

pub record PartAt (image : Bor (List ℕ)) (found : Result (Option Found) Refusal) (r : Bor (List ℕ)) : Type 0 where
  pub inside : start_of found + length_of found ≤ length image.now → PartOf image (start_of found) (length_of found) r
  pub outside : length image.now < start_of found + length_of found → PartOf image 0 0 r
