-- Each promise determines its result: two results that meet it are equal. Each statement is a type, which proofs/Determined inhabits.
--   JudgesOne, JudgesStripeOne, JudgesMapOne, JudgesLentOne, JudgesGapsOne, JudgesListsOne, JudgesItemsOne   the promise of each test
--   ShapesPass     the shape's rules, one for each number, let exactly the shapes pass
use Rattle.std.specs.Prelude.{◌≡◌, ◌↔◌, List, ℕ, Result, ⊤}
use Rattle.parity.specs.Shape.{Shape}
use Rattle.refusals.specs.Refusals.{pass, Gives}
use Rattle.maps.specs.declared.Map.{Map}
use Rattle.maps.specs.declared.Gaps.{Gaps}
use Rattle.refusals.specs.declared.Refusal.{Refusal}
use Rattle.inputs.specs.declared.lists.ListRefusal.{ListRefusal}
use Rattle.inputs.specs.Rules.{shape_rules}
use Rattle.inputs.specs.Shapes.{Judges}
use Rattle.inputs.specs.Tests.{JudgesStripe, JudgesMap, JudgesLent, JudgesGaps}
use Rattle.inputs.specs.Lists.{JudgesLists, JudgesItems}

unfoldable pub JudgesOne : Type 0
JudgesOne = (m k b : ℕ) (r q : Result ℕ Refusal) → Judges m k b r → Judges m k b q → r ≡ q

unfoldable pub ShapesPass : Type 0
ShapesPass = (m k b : ℕ) → Gives (shape_rules m k b) pass ↔ Shape m k b

unfoldable pub JudgesStripeOne : Type 0
JudgesStripeOne = (m k b n : ℕ) (r q : Result ℕ Refusal) → JudgesStripe m k b n r → JudgesStripe m k b n q → r ≡ q

unfoldable pub JudgesMapOne : Type 0
JudgesMapOne = (k : ℕ) (map : Map) (r q : Result ⊤ Refusal) → JudgesMap k map r → JudgesMap k map q → r ≡ q

unfoldable pub JudgesLentOne : Type 0
JudgesLentOne = (m k b : ℕ) (map : Map) (n w : ℕ) (r q : Result ℕ Refusal) → JudgesLent m k b map n w r → JudgesLent m k b map n w q → r ≡ q

unfoldable pub JudgesGapsOne : Type 0
JudgesGapsOne = (m k b : ℕ) (map : Map) (n w : ℕ) (r q : Result (ℕ × Gaps) Refusal) → JudgesGaps m k b map n w r → JudgesGaps m k b map n w q → r ≡ q

unfoldable pub JudgesListsOne : Type 0
JudgesListsOne = (m k b n columns rows cells : ℕ) (r q : Result ℕ Refusal) → JudgesLists m k b n columns rows cells r → JudgesLists m k b n columns rows cells q → r ≡ q

unfoldable pub JudgesItemsOne : Type 0
JudgesItemsOne = (m k : ℕ) (columns rows : List ℕ) (r q : Result ⊤ ListRefusal) → JudgesItems m k columns rows r → JudgesItems m k columns rows q → r ≡ q
