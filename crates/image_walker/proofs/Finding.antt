-- What `find_from` counts.
--   before_none, before_present, before_absent    where the body of column 0 begins, and that of the next column, by whether this one is present
--   before_most                 it is a small number
--   absent_none, absent_more    no column from a place on is present below 0; nor below t + 1, where none is below t and t is not
use mathlib.Core.Path.{◌≡◌}
use mathlib.Core.Bool.{Bool, true, false}
use mathlib.Core.List.{List}
use Prim.Native.Nat.{ℕ, ◌+◌, ◌*◌, ◌≤◌}
use native.Mathlib.Numerals.{add-one}
use native.Mathlib.Nat.{mul-le-mul}
use native.Mathlib.Omega.{arith}
use borrow.Author.Count.{below_more}
use Rattle.parity.specs.Sum.{count}
use Rattle.parity.specs.Presence.{present}
use Rattle.parity.proofs.Count.{count_most}
use Rattle.image.specs.Format.{present_below}
use Rattle.image.proofs.Laid.{bodies_none, bodies_more}
use Rattle.image_walker.specs.Steps.{AbsentFrom}
use Rattle.image_walker.specs.Finding.{body_start}

module _ (map : List Bool) (columns column : ℕ) where
  pub before_none : 8 + 8 * columns ≡ body_start map columns column 0
  before_none = omega (arith, bodies_none map column)

  module _ (t : ℕ) {start : ℕ} (e : start ≡ body_start map columns column t) where
    pub before_present : present map t ≡ true → start + column ≡ body_start map columns column (t + 1)
    before_present p = rw add-one (omega (arith, e, rw p at (bodies_more map column t)))

    pub before_absent : present map t ≡ false → start ≡ body_start map columns column (t + 1)
    before_absent p = rw add-one (omega (arith, e, rw p at (bodies_more map column t)))

    pub before_most : t ≤ 129 → columns ≤ 129 → column ≤ 516096 → start ≤ 66577424
    unfolding present_below
    before_most h l n = let x = mul-le-mul {n₁ = count t (present map)} {n₂ = 129} (let y = count_most t (present map) in omega arith) n in omega arith

pub absent_none : (place : ℕ) (map : List Bool) → AbsentFrom place 0 map
absent_none place map t p l = absurd (omega arith)

pub absent_more : (place t : ℕ) (map : List Bool) → AbsentFrom place t map → (place ≤ t → present map t ≡ false) → AbsentFrom place (t + 1) map
absent_more place t map before e u p l = below_more (λ x. place ≤ x → present map x ≡ false) t (λ x h q. before x q h) e u l p
