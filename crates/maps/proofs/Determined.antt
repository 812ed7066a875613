-- Each promise determines its result: the proofs of the statements in specs/Determined.
-- A list of rules gives one verdict, and where it passes the promise says the rest.
use mathlib.Core.Path.{◌≡◌, refl, sym, ◌∙◌}
use mathlib.Core.Logic.{◌↔◌, ◌⊎◌, inl, inr, by_cases}
use mathlib.Core.Bool.{Bool, true, false, cond}
use mathlib.Core.List.{List}
use Prim.Native.Nat.{ℕ}
use native.Mathlib.Decide.{dec_lt}
use native.Mathlib.Omega.{arith}
use lib.Dec.{eqb}
use lib.Seq.{ext_get_or}
use Rattle.refusals.specs.declared.Refusal.{Refusal}
use Rattle.refusals.specs.declared.Refusal.TheVariants.{NoSuchColumn, LyingMap}
use Rattle.refusals.specs.Refusals.{pass, refuse, Gives}
use Rattle.refusals.proofs.Rules.{both_answers, gives_first, gives_next}
use Rattle.maps.specs.declared.Gaps.{Gaps}
use Rattle.maps.specs.declared.Map.{Map}
use Rattle.maps.specs.Absent.{Counts}
use Rattle.maps.specs.Rules.{place_rules}
use Rattle.maps.specs.Determined.{NewOne, OfPlacesOne, OfBytesOne, AsBytesOne, TellsTruthOne, MarksOne, MarkedTwice, JudgesPlaceOne, FindsGapsOne, FindsStraysOne, TrueMapOne, ByHighest, ByCount}
use Rattle.maps.proofs.Absent.{past_all, nth_one}
use Rattle.maps.proofs.Truth.{true_one, true_or_not, from_highest, absent_counted}
use Rattle.maps.proofs.Presence.{same_map, place_passed}

pub new_one : NewOne
unfolding NewOne
new_one r q x y = same_map r q x.truth y.truth (λ t. x.absent t ∙ sym (y.absent t))

pub of_places_one : OfPlacesOne
unfolding OfPlacesOne
of_places_one places r q x y = true_one r q x.truth y.truth (x.same ∙ sym y.same)

pub of_bytes_one : OfBytesOne
unfolding OfBytesOne
of_bytes_one bytes r q x y = same_map r q x.truth y.truth (λ t.
    by_cases (dec_lt t 129)
    (λ l. x.at t l ∙ sym (y.at t l))
    (λ n. past_all r.places t (let w = x.truth.whole in omega arith) ∙ sym (past_all q.places t (let w = y.truth.whole in omega arith))))

pub as_bytes_one : AsBytesOne
unfolding AsBytesOne
as_bytes_one map x y p q = ext_get_or 0 x y (p.whole ∙ sym q.whole) (λ t l. let w = p.whole in p.at t (omega arith) ∙ sym (q.at t (omega arith)))

-- two answers, each yes exactly where the same holds
same_answer : {P : Type 0} (r q : Bool) → (r ≡ true) ↔ P → (q ≡ true) ↔ P → r ≡ q
same_answer true true x y = refl
same_answer true false x y = sym (y.1 (x.0 refl))
same_answer false true x y = x.1 (y.0 refl)
same_answer false false x y = refl

pub tells_truth_one : TellsTruthOne
unfolding TellsTruthOne
tells_truth_one map r q x y = same_answer r q x y

-- a place can be marked, or cannot
judged_place : (map : Map) (place : ℕ) → Gives (place_rules map place) pass ⊎ ((f : Refusal) × Gives (place_rules map place) (refuse f))
judged_place map place = by_cases (true_or_not map)
    (λ h. by_cases (dec_lt place 129)
    (λ l. inl (gives_next (λ lies. lies h) (gives_next (λ far. omega arith) refl)))
    (λ n. inr (NoSuchColumn, gives_next (λ lies. lies h) (gives_first (omega arith)))))
    (λ lies. inr (LyingMap, gives_first lies))

pub marks_one : MarksOne
unfolding MarksOne
marks_one state before place r q x y = elim (judged_place before place) [
  | inl g ↦ let u = x.done g in let v = y.done g in same_map r q u.truth v.truth (λ t. u.at t ∙ sym (v.at t))
  | inr g ↦ x.kept g.0 g.1 ∙ sym (y.kept g.0 g.1)
]

pub marked_twice : MarkedTwice
unfolding MarkedTwice
marked_twice state before place once twice x y = elim (judged_place before place) [
  | inl g ↦
      let u = x.done g in
      let (_, l) = place_passed before place g in
      let v = y.done (gives_next (λ lies. lies u.truth) (gives_next (λ far. omega arith) refl)) in
      same_map twice once v.truth u.truth (λ t. again (eqb t place) _ _ _ (u.at t) (v.at t))
  | inr g ↦ let e = x.kept g.0 g.1 in y.kept g.0 (rw e g.1)
]
  where
    again : (b : Bool) (u v w : Bool) → v ≡ cond b state u → w ≡ cond b state v → w ≡ v
    again true u v w p q = q ∙ sym p
    again false u v w p q = q

pub judges_place_one : JudgesPlaceOne
unfolding JudgesPlaceOne
judges_place_one map place r q x y = both_answers (place_rules map place) (λ r q. r ≡ q) (λ _ _. refl) (λ f. refl) r q x.told y.told

pub counts_one : (n : ℕ) (map : List Bool) (r q : Gaps) → Counts n map r → Counts n map q → r ≡ q
counts_one n map r q x y =
    let first : r.first ≡ q.first = nth_one n 0 map r.first q.first x.first y.first in
    let second : r.second ≡ q.second = nth_one n 1 map r.second q.second x.second y.second in
    let count : r.count ≡ q.count = x.count ∙ sym y.count in
    λ i. record { count = count i; first = first i; second = second i }

pub finds_gaps_one : FindsGapsOne
unfolding FindsGapsOne
finds_gaps_one map n r q x y =
    by_cases (dec_lt 129 n)
    (λ l. counts_one 129 map.places r q (x.all l) (y.all l))
    (λ m. counts_one n map.places r q (x.some (omega arith)) (y.some (omega arith)))

pub finds_strays_one : FindsStraysOne
unfolding FindsStraysOne
finds_strays_one map n r q x y = same_answer r q x y

-- ---- what the two numbers of a true map tell

pub true_map_one : TrueMapOne
unfolding TrueMapOne
true_map_one = true_one

pub by_highest : ByHighest
unfolding ByHighest
by_highest n map h = from_highest map h n

pub by_count : ByCount
unfolding ByCount
by_count k map h = absent_counted map h k
