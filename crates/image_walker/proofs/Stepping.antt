-- What a step answers, by the way out.
--   next_of         the place after what is found
--   step_found      what is found by the map
--   found_step      and the other way round: what a step finds is found by the map
use mathlib.Core.Path.{◌≡◌, refl}
use mathlib.Core.Bool.{Bool}
use mathlib.Core.List.{List, [], ◌∷◌}
use Prim.Native.Nat.{ℕ, ◌+◌, ◌≤◌}
use native.Mathlib.Omega.{arith}
use Rattle.std.specs.Prelude.{Option, Some, None, Ok}
use Rattle.parity.specs.Shape.{column_length}
use Rattle.refusals.specs.Refusals.{pass, Gives}
use Rattle.refusals.proofs.Rules.{gives_next, gives_after}
use Rattle.image.specs.Format.{offset, WellFormed}
use Rattle.image.specs.Reads.{m_in, k_in, b_in, contents_rules}
use Rattle.image.specs.Determined.{ImageOne}
use Rattle.image.proofs.Filling.{Good}
use Rattle.image.proofs.Determined.{image_one}
use Rattle.image_walker.specs.declared.steps.Found.{Found}
use Rattle.image_walker.specs.Steps.{past_the_end, walk_rules, StepAt}
use Rattle.image_walker.specs.Finding.{FindsFrom}

abbrev pub next_of : ℕ → Option Found → ℕ
next_of columns (Some r) = r.column + 1
next_of columns None = columns

module _ (image : List ℕ) (place : ℕ) {m k b : ℕ} {map : List Bool} (g : Good image m k b map) where
  passes : place ≤ k + 2 → Gives (walk_rules image place) pass
  passes h = gives_after (contents_rules image) (past_the_end (k_in image) place ∷ []) pass g.passes (gives_next (λ l. let e = g.own.second in omega arith) refl)

  pub step_found : (r : Option Found) → place ≤ k + 2 → FindsFrom map (k + 2) (column_length m b) place r → StepAt image place (record { found = Ok r; next = next_of (k + 2) r })
  unfolding offset
  step_found (Some r) h l =
      let own = g.own in
      record {
        told = passes h;
        finds = (
          record {
            map = map;
            formed = rw (own.first, own.second, own.third) at g.formed;
            order = l.order;
            inside = rw own.second at l.inside;
            there = l.there;
            before = l.before;
            begins = rw (l.there, ← own.first, ← own.second, ← own.third) l.begins;
            size = rw (own.first, own.third) at l.size;
          },
          refl,
        );
      }
  step_found None h none =
      let own = g.own in
      record {
        told = passes h;
        finds = (
          record {
            map = map;
            formed = rw (own.first, own.second, own.third) at g.formed;
            none = rw own.second at none;
          },
          rw own.second refl,
        );
      }

  -- one map fits the image
  one : (other : List Bool) → WellFormed (m_in image) (k_in image) (b_in image) other image → other ≡ map
  unfolding ImageOne
  one other w =
      let own = g.own in
      (image_one image (m_in image) (k_in image) (b_in image) m k b other map (rw (own.first, own.second, own.third) at g.shape) g.shape w g.formed).3

  pub found_step : (r : Option Found) {next : ℕ} → StepAt image place (record { found = Ok r; next = next }) → FindsFrom map (k + 2) (column_length m b) place r × (next ≡ next_of (k + 2) r)
  unfolding offset
  found_step (Some r) step =
      let (x, moved) = step.finds in
      let own = g.own in
      let same = one x.map x.formed in (
        record {
          order = x.order;
          inside = rw own.second x.inside;
          there = rw same at x.there;
          before = rw same at x.before;
          begins = rw (own.first, own.second, own.third) (rw (x.there, same) at x.begins);
          size = rw (own.first, own.third) x.size;
        },
        moved,
      )
  found_step None step =
      let (x, moved) = step.finds in
      let own = g.own in
      (rw (own.second, ← one x.map x.formed) x.none, rw own.second moved)
