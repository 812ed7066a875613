-- The proofs of the statements in specs/Determined: a list of rules gives one verdict, one map fits an image, and by a map one column is the first present
-- one at or after a place. A walk from a place on hands out what the present columns below the place lack of all; and there is one, column by column from
-- the last on: a present column is handed out before what comes after it, and an absent one changes nothing.
use mathlib.Core.Path.{◌≡◌, refl, sym, ap, ap₂, ◌∙◌, subst}
use mathlib.Core.Logic.{inl, inr}
use mathlib.Core.Bool.{Bool, true, false, cond, true≢false}
use mathlib.Core.List.{List, [], ◌∷◌, ◌++◌, append_assoc, append-nil}
use Prim.Native.Nat.{ℕ, zero, suc, ◌+◌, ◌≤◌, ◌<◌}
use native.Mathlib.Numerals.{add-one}
use native.Mathlib.Nat.{eq-or-lt_of_le, le_of_suc-le-suc, lt-suc_self, le_step, suc-mul, mul-le-mul_right}
use native.Mathlib.Decide.{dec_lt}
use native.Mathlib.Omega.{arith}
use lib.ListN.{length, take, drop, length-drop}
use lib.Seq.{ext_get_or, length-take-le, get_or-take, get_or-drop}
use Rattle.parity.specs.Shape.{Shape, column_length}
use Rattle.parity.specs.Sum.{count}
use Rattle.parity.specs.Presence.{present}
use Rattle.parity.proofs.Count.{count_under}
use Rattle.std.specs.Prelude.{Option, Some, None, Result, Ok, Err}
use Rattle.refusals.specs.declared.Refusal.{Refusal}
use Rattle.refusals.specs.Refusals.{pass, Gives}
use Rattle.refusals.proofs.Rules.{passes_not, refuse_one, passed_first, gives_one, gives_passed}
use Rattle.inputs.proofs.ShapeLaws.{passed_shape}
use Rattle.evenodd.proofs.Determined.{part_one}
use Rattle.image.specs.Format.{joined, present_below, body, WellFormed}
use Rattle.image.specs.Reads.{m_in, k_in, b_in, malformed, contents_rules}
use Rattle.image.proofs.Standing.{Stands}
use Rattle.image.proofs.Laid.{body_length, image_laid}
use Rattle.image.proofs.Verdicts.{formed_header, formed_passes}
use Rattle.image.proofs.Filling.{Good}
use Rattle.image_walker.specs.declared.steps.Found.{Found}
use Rattle.image_walker.specs.Steps.{past_the_end, walk_rules, start_of, length_of, AbsentFrom, StepAt}
use Rattle.image_walker.specs.Finding.{body_start, Lies, FindsFrom}
use Rattle.image_walker.specs.Walks.{Walked, present_columns}
use Rattle.image_walker.specs.Determined.{StepsOne, PartsOne, WalkersOne, StepTellsColumn, WalkTellsColumns, WalkEnds}
use Rattle.image_walker.proofs.Stepping.{next_of, step_found, found_step}

-- ---- a step

-- what is known of an image, from a step that passes
good_of : {image : List ℕ} {place : ℕ} {map : List Bool} → Gives (walk_rules image place) pass → WellFormed (m_in image) (k_in image) (b_in image) map image
    → Good image (m_in image) (k_in image) (b_in image) map
good_of {image} {place} told w =
    let (first, _) = gives_passed (contents_rules image) (past_the_end (k_in image) place ∷ []) told in
    let (shape, _) = passed_shape (m_in image) (k_in image) (b_in image) (malformed (m_in image) (k_in image) (b_in image) image ∷ []) (passed_first first).1 in
    record { own = record { first = refl; second = refl; third = refl }; passes = first; shape = shape; formed = w }

good_step : {image : List ℕ} {place next : ℕ} (r : Option Found) → StepAt image place (record { found = Ok r; next = next })
    → (map : List Bool) × Good image (m_in image) (k_in image) (b_in image) map
good_step (Some r) x = (x.finds.0.map, good_of x.told x.finds.0.formed)
good_step None x = (x.finds.0.map, good_of x.told x.finds.0.formed)

found_same : (t a n u b o : ℕ) → t ≡ u → a ≡ b → n ≡ o
    → ◌≡◌ {A = Found} (record { column = t; start = a; length = n }) (record { column = u; start = b; length = o })
found_same t a n u b o e f g = rw (e, f, g) refl

module _ {map : List Bool} {columns column place : ℕ} where
  not_before : {u : ℕ} {r : Found} → Lies map columns column place r → AbsentFrom place u map → r.column < u → ⊥
  not_before x absent h = true≢false (sym x.there ∙ absent _ x.order h)

  -- one column is the first
  first_one : {r q : Found} → Lies map columns column place r → Lies map columns column place q → r.column ≡ q.column
  first_one {r} {q} x y = elim (dec_lt r.column q.column) [
    | yes l ↦ absurd (not_before x y.before l)
    | no l ↦ elim (dec_lt q.column r.column) [
      | yes h ↦ absurd (not_before y x.before h)
      | no h ↦ omega arith
    ]
  ]

  found_one : {r q : Found} → Lies map columns column place r → Lies map columns column place q → r ≡ q
  found_one {r} {q} x y =
      let e = first_one x y in
      found_same _ _ _ _ _ _ e (x.begins ∙ ap (body_start map columns column) e ∙ sym y.begins) (x.size ∙ sym y.size)

module _ (map : List Bool) (columns column place : ℕ) where
  finds_one : (f g : Option Found) → FindsFrom map columns column place f → FindsFrom map columns column place g → f ≡ g
  finds_one (Some r) (Some q) x y = ap Some (found_one x y)
  finds_one (Some r) None x y = absurd (not_before x y x.inside)
  finds_one None (Some q) x y = absurd (not_before y x y.inside)
  finds_one None None x y = refl

pub steps_one : StepsOne
unfolding StepsOne
steps_one image place r q x y = let (found, next) = go r.found q.found x y in ap₂ (λ f n. record { found = f; next = n }) found next
  where
    go : (f h : Result (Option Found) Refusal) {n o : ℕ} → StepAt image place (record { found = f; next = n }) → StepAt image place (record { found = h; next = o }) → (f ≡ h) × (n ≡ o)
    go (Ok f) (Ok h) x y =
        let (map, g) = good_step f x in
        let (from, next) = found_step image place g f x in
        let (other, later) = found_step image place g h y in
        let e = finds_one map _ _ place f h from other in
        (ap Ok e, next ∙ ap (next_of _) e ∙ sym later)
    go (Ok f) (Err h) x y = absurd (passes_not h (gives_one (walk_rules image place) _ _ x.told y.told))
    go (Err f) (Ok h) x y = absurd (passes_not f (gives_one (walk_rules image place) _ _ y.told x.told))
    go (Err f) (Err h) x y = (ap Err (refuse_one f h (gives_one (walk_rules image place) _ _ x.told y.told)), x.finds ∙ sym y.finds)

-- ---- the part that was found

pub parts_one : PartsOne
unfolding PartsOne
parts_one image found r q x y = elim (dec_lt (length image.now) (start_of found + length_of found)) [
  | yes l ↦ part_one (x.outside l) (y.outside l)
  | no l ↦ part_one (x.inside (omega arith)) (y.inside (omega arith))
]

-- what stands in a list can be taken from there
stands_taken : (image : List ℕ) (a : ℕ) (xs : List ℕ) → Stands image a xs → a + length xs ≤ length image → take (length xs) (drop a image) ≡ xs
stands_taken image a xs s h =
    let e : length (take (length xs) (drop a image)) ≡ length xs = length-take-le (length xs) (drop a image) (simp length-drop (omega arith)) in
    ext_get_or 0 _ xs e (λ i l. let b : i < length xs = rw e at l in get_or-take (length xs) (drop a image) i 0 b ∙ get_or-drop a image i 0 ∙ s.at i b)

-- what is known of a well-formed image
good_formed : {image : List ℕ} {m k b : ℕ} {map : List Bool} → Shape m k b → WellFormed m k b map image → Good image m k b map
good_formed {map = map} s w =
    let h = formed_header s w in
    record { own = record { first = h.first; second = h.second; third = h.third }; passes = formed_passes h s map w; shape = s; formed = w }

pub step_tells_column : StepTellsColumn
unfolding StepTellsColumn present_below
step_tells_column image r m k b place next found map s w x part =
    let (l, _) = found_step image.now place (good_formed s w) (Some found) x in
    let laid = image_laid m k b map w.stripe w.sized.whole image.now w.same in
    let size : length (body m b map w.stripe found.column) ≡ found.length = body_length m k b map w.stripe w.sized.whole found.column l.inside ∙ rw l.there (sym l.size) in
    let room = mul-le-mul_right (column_length m b) (count_under (k + 2) (present map) found.column l.there l.inside) in
    let fits : found.start + found.length ≤ length image.now = omega (arith, suc-mul (count found.column (present map)) (column_length m b), laid.size, l.begins, l.size) in
    let p = part.inside fits in
    (p, p.bytes ∙ ap (λ x. take x (drop found.start image.now)) (sym size) ∙ stands_taken image.now found.start _ (rw l.begins (laid.bodies found.column l.inside)) (rw size fits))

pub walkers_one : WalkersOne
unfolding WalkersOne
walkers_one image place w v x y = ap₂ (λ i p. record { image = i; place = p }) (x.over ∙ sym y.over) (x.at ∙ sym y.at)

-- ---- a whole walk

-- the present columns below n
abbrev present_before : ℕ → List Bool → List ℕ
present_before n map = joined n (λ t. cond (present map t) (t ∷ []) [])

-- columns that are absent add nothing
over : (map : List Bool) (p t : ℕ) → p ≤ t → AbsentFrom p t map → present_before t map ≡ present_before p map
unfolding joined
over map p zero h none = let e : 0 ≡ p = omega arith in ap (λ n. present_before n map) e
over map p (suc t) h none = elim (eq-or-lt_of_le h) [
  | inl e ↦ ap (λ n. present_before n map) (sym e)
  | inr l ↦ ap (λ x. present_before t map ++ cond x (t ∷ []) []) (none t (le_of_suc-le-suc l) (lt-suc_self t)) ∙ append-nil _ ∙ over map p t (le_of_suc-le-suc l) (λ u a c. none u a (le_step c))
]

pub walk_tells_columns : WalkTellsColumns
unfolding WalkTellsColumns present_columns joined
walk_tells_columns image m k b map s w columns walked = go columns 0 (omega arith) walked
  where
    go : (columns : List ℕ) (p : ℕ) → p ≤ k + 2 → Walked image p columns → present_before p map ++ columns ≡ present_before (k + 2) map
    go [] p h x = append-nil _ ∙ sym (over map p (k + 2) h (found_step image p (good_formed s w) None x.step).0)
    go (t ∷ columns) p h x =
        let (l, _) = found_step image p (good_formed s w) _ x.0.step in
        let more : present_before t map ++ (t ∷ []) ≡ present_before (t + 1) map = rw (add-one, l.there) in
        ap (λ y. y ++ (t ∷ columns)) (sym (over map p t l.order l.before)) ∙ sym (append_assoc (present_before t map) (t ∷ []) columns)
        ∙ ap (λ y. y ++ columns) more ∙ go columns (t + 1) (omega (arith, l.inside)) x.1

module _ (map : List Bool) (columns column p : ℕ) (absent : present map p ≡ false) where
  absent_back : (n : ℕ) → AbsentFrom (p + 1) n map → AbsentFrom p n map
  absent_back n none t h l = elim (eq-or-lt_of_le h) [ inl e ↦ ap (present map) (sym e) ∙ absent | inr a ↦ none t (omega arith) l ]

  -- what is found after an absent column is found from it on
  finds_back : (r : Option Found) → FindsFrom map columns column (p + 1) r → FindsFrom map columns column p r
  finds_back (Some r) x = record {
    order = omega (arith, x.order);
    inside = x.inside;
    there = x.there;
    before = absent_back r.column x.before;
    begins = x.begins;
    size = x.size;
  }
  finds_back None x = absent_back columns x

module _ {image : List ℕ} {m k b : ℕ} {map : List Bool} (g : Good image m k b map) where
  walked_back : (p : ℕ) → p < k + 2 → present map p ≡ false → (columns : List ℕ) → Walked image (p + 1) columns → Walked image p columns
  walked_back p h absent = go
    where
      back : (r : Option Found) {next : ℕ} → StepAt image (p + 1) (record { found = Ok r; next = next }) → StepAt image p (record { found = Ok r; next = next })
      back r x =
          let (from, e) = found_step image (p + 1) g r x in
          rw e (step_found image p g r (omega arith) (finds_back map (k + 2) (column_length m b) p absent r from))

      go : (columns : List ℕ) → Walked image (p + 1) columns → Walked image p columns
      go [] x = record { next = x.next; step = back None x.step }
      go (t ∷ columns) x = (record { start = x.0.start; size = x.0.size; step = back (Some _) x.0.step }, x.1)

  walk_from : (n p : ℕ) → p + n ≡ k + 2 → (columns : List ℕ) × Walked image p columns
  walk_from zero p e = ([], record { next = k + 2; step = step_found image p g None (omega arith) (λ t a l. absurd (omega arith)) })
  walk_from (suc n) p e = let (columns, walked) = walk_from n (p + 1) (omega arith) in go columns walked (present map p) refl
    where
      go : (columns : List ℕ) → Walked image (p + 1) columns → (state : Bool) → present map p ≡ state → (columns : List ℕ) × Walked image p columns
      go columns walked true there = (
        p ∷ columns,
        (
          record {
            start = body_start map (k + 2) (column_length m b) p;
            size = column_length m b;
            step = step_found image p g (Some _) (omega arith)
                (record { order = omega arith; inside = omega arith; there = there; before = λ t a l. absurd (omega arith); begins = refl; size = refl });
          },
          walked,
        ),
      )
      go columns walked false absent = (columns, walked_back p (omega arith) absent columns walked)

pub walk_ends : WalkEnds
unfolding WalkEnds WalkTellsColumns
walk_ends image m k b map s w =
    let (columns, walked) = walk_from (good_formed s w) (k + 2) 0 (omega arith) in
    subst (λ c. Walked image 0 c) (walk_tells_columns image m k b map s w columns walked) walked
