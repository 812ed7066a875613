-- The pieces of an image as the code writes them: what the functions within this crate promise each other.
--   four_numbers a b c d      four numbers, of each the lowest sixteen bits
--   entry_of t there body     the entry of column t: present with a body that begins there, or absent
--   body_of map column s t    column t of the stripe s, where columns have so many bytes, or nothing if it is absent
--   JudgesMarked             three numbers, a stripe of n bytes and a map, by `marked_rules`
use Rattle.std.specs.Prelude.{Bool, cond, List, [], ◌++◌, ℕ, ◌*◌, ◌/◌, take, drop, Result}
use Rattle.parity.specs.Presence.{present}
use Rattle.maps.specs.declared.Map.{Map}
use Rattle.refusals.specs.declared.Refusal.{Refusal}
use Rattle.refusals.specs.Refusals.{verdict_of, Gives}
use Rattle.inputs.specs.Shapes.{good_column}
use Rattle.image.specs.Format.{le2}
use Rattle.image_writer.specs.Writes.{marked_rules}

abbrev pub four_numbers : ℕ → ℕ → ℕ → ℕ → List ℕ
four_numbers a b c d = le2 a ++ (le2 b ++ (le2 c ++ le2 d))

abbrev pub entry_of : ℕ → Bool → ℕ → List ℕ
entry_of t there body = cond there (four_numbers t 1 body (body / 65536)) (four_numbers t 0 0 0)

abbrev pub body_of : List Bool → ℕ → List ℕ → ℕ → List ℕ
body_of map column s t = cond (present map t) (take column (drop (t * column) s)) []

pub record JudgesMarked (m k b : ℕ) (map : Map) (n : ℕ) (r : Result ℕ Refusal) : Type 0 where
  pub told : Gives (marked_rules m k b map n) (verdict_of r)
  pub column : good_column m b r
