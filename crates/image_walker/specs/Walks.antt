-- The walker, and a whole walk.
--   Walks image place w          w is a walker over that image, at that place
--   HandsOut, Ends               a step from the place hands out that column, with the place after it; it says that none is left
--   Walked image place columns   steps from the place on hand out these columns one after another, and then none is left
--   present_columns k map         the present columns below k + 2, from the lowest on
use Rattle.std.specs.Prelude.{◌≡◌, Bool, cond, List, [], ◌∷◌, ℕ, ◌+◌, Some, None, Ok}
use Rattle.std.specs.Borrow.{Bor}
use Rattle.parity.specs.Presence.{present}
use Rattle.image.specs.Format.{joined}
use Rattle.image_walker.specs.declared.walker.Walker.{Walker}
use Rattle.image_walker.specs.Steps.{StepAt}

pub record Walks (image : Bor (List ℕ)) (place : ℕ) (w : Walker) : Type 0 where
  pub over : w.image ≡ image
  pub at : w.place ≡ place

pub record HandsOut (image : List ℕ) (place column next : ℕ) : Type 0 where
  pub start : ℕ
  pub size : ℕ
  pub step : StepAt image place (record { found = Ok (Some (record { column = column; start = start; length = size })); next = next })

pub record Ends (image : List ℕ) (place : ℕ) : Type 0 where
  pub next : ℕ
  pub step : StepAt image place (record { found = Ok None; next = next })

abbrev pub Walked : List ℕ → ℕ → List ℕ → Type 0
Walked image place [] = Ends image place
Walked image place (column ∷ columns) = HandsOut image place column (column + 1) × Walked image (column + 1) columns

unfoldable pub present_columns : ℕ → List Bool → List ℕ
present_columns k map = joined (k + 2) (λ t. cond (present map t) (t ∷ []) [])
