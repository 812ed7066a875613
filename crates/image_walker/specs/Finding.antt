-- What the functions within this crate promise each other.
--   body_start map columns column t   where the body of column t begins, of so many columns with so many bytes each, if it is present
--   Lies                                column t is the first present one at or after the place, and its body lies there
--   FindsFrom                           what is found from a place on, by the map alone
use Rattle.std.specs.Prelude.{◌≡◌, Bool, true, List, ℕ, ◌+◌, ◌*◌, ◌≤◌, ◌<◌, Option, Some, None}
use Rattle.parity.specs.Presence.{present}
use Rattle.image.specs.Format.{present_below}
use Rattle.image_walker.specs.declared.steps.Found.{Found}
use Rattle.image_walker.specs.Steps.{AbsentFrom}

abbrev pub body_start : List Bool → ℕ → ℕ → ℕ → ℕ
body_start map columns column t = 8 + 8 * columns + present_below t map * column

pub record Lies (map : List Bool) (columns column place : ℕ) (r : Found) : Type 0 where
  pub order : place ≤ r.column
  pub inside : r.column < columns
  pub there : present map r.column ≡ true
  pub before : AbsentFrom place r.column map
  pub begins : r.start ≡ body_start map columns column r.column
  pub size : r.length ≡ column

abbrev pub FindsFrom : List Bool → ℕ → ℕ → ℕ → Option Found → Type 0
FindsFrom map columns column place (Some r) = Lies map columns column place r
FindsFrom map columns column place None = AbsentFrom place columns map
