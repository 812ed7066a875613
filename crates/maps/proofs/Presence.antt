-- Laws of the presence map.
--   whole                         a map has 129 places
--   new_absent, new_true          in a list of absent places every place is absent, and of them none is the highest
--   same_map                      two true maps with the same places present are equal
--   place_passed                  what is known where a place can be marked
--   marks_passed, marks_refused   what a mark leaves, by what is judged of the place
--   marked_already, marked_put, marked_cleared    a place that is in its state already, that comes to be present, and that comes to be absent
use mathlib.Core.Path.{◌≡◌, refl, sym, ap, ◌∙◌}
use mathlib.Core.Bool.{Bool, true, false}
use mathlib.Core.List.{List}
use mathlib.Core.Logic.{by_cases}
use Prim.Native.Nat.{ℕ, zero, suc, ◌+◌, ◌-◌, ◌<◌}
use native.Mathlib.Decide.{ℕ_discrete}
use native.Mathlib.Omega.{arith}
use lib.ListN.{length, set, replicate, length-set}
use lib.Seq.{ext_get_or}
use mir.Val.{Val}
use denote.Laws.{Is}
use borrow.Author.Tests.{eq-eqb, ne_eqb}
use Rattle.parity.specs.Presence.{present}
use Rattle.parity.proofs.Count.{all_fail}
pub use Rattle.maps.proofs.Absent.{absences_below, below_most}
use Rattle.maps.specs.declared.Map.{Map}
use Rattle.refusals.specs.declared.Refusal.{Refusal}
use Rattle.maps.specs.Maps.{MarkedAs, Marks}
use Rattle.refusals.specs.Refusals.{pass, refuse, Gives}
use Rattle.maps.specs.Rules.{place_rules}
use Rattle.maps.specs.Truth.{Highest, TrueMap}
use Rattle.refusals.proofs.Rules.{passed_first, not_both}
use Rattle.maps.proofs.Truth.{true_one, not_lying, put_present, counted_put, counted_cleared}
use Rattle.maps.specs.contracts.Map.{the_row}

pub whole : (map : Map) {vs : List Val} → Is the_row map vs → length map.places ≡ 129
whole map good = good.1.1.0.1.0.1

pub new_absent : (n t : ℕ) → present (replicate n false) t ≡ false
unfolding present
new_absent zero t = refl
new_absent (suc n) zero = refl
new_absent (suc n) (suc t) = new_absent n t

pub new_true : TrueMap (record { places = replicate 129 false; present = 0; highest = 129 })
new_true = record {
  whole = refl;
  counted = sym (all_fail 129 (present (replicate 129 false)) (λ t _. new_absent 129 t));
  named = record { there = λ n. absurd (n refl); above = λ n. absurd (n refl); none = λ _ t. new_absent 129 t };
}

pub same_map : (x y : Map) → TrueMap x → TrueMap y → ((t : ℕ) → present x.places t ≡ present y.places t) → x ≡ y
unfolding present
same_map x y p q h = true_one x y p q (ext_get_or false x.places y.places (p.whole ∙ sym q.whole) (λ t _. h t))

-- ---- marks

pub place_passed : (map : Map) (place : ℕ) → Gives (place_rules map place) pass → TrueMap map × (place < 129)
place_passed map place g =
    let (honest, rest) = passed_first g in
    let (inside, _) = passed_first rest in
    (not_lying map honest, omega arith)

module _ (state : Bool) (before : Map) (place : ℕ) where
  pub marks_passed : (after : Map) → Gives (place_rules before place) pass → MarkedAs state before place after → Marks state before place after
  marks_passed after g m = record { done = λ _. m; kept = λ f r. absurd (not_both (place_rules before place) f g r) }

  pub marks_refused : (f : Refusal) → Gives (place_rules before place) (refuse f) → Marks state before place before
  marks_refused f g = record { done = λ p. absurd (not_both (place_rules before place) f p g); kept = λ _ _. refl }

  pub marked_already : TrueMap before → present before.places place ≡ state → MarkedAs state before place before
  marked_already h e = record {
    at = λ t. by_cases (ℕ_discrete t place)
        (λ q. rw (eq-eqb t place q) (ap (present before.places) q ∙ e))
        (λ n. rw (ne_eqb t place n));
    truth = h;
  }

module _ (before : Map) (place : ℕ) (h : TrueMap before) (l : place < 129) where
  inside : place < length before.places
  inside = let w = h.whole in omega arith

  pub marked_put : present before.places place ≡ false → (highest : ℕ) → Highest (set before.places place true) highest
      → MarkedAs true before place (record { places = set before.places place true; present = before.present + 1; highest = highest })
  marked_put e highest top = record {
    at = put_present before.places place inside true;
    truth = record { whole = rw length-set h.whole; counted = (let c = counted_put before.places place inside l e in let b = h.counted in omega arith); named = top };
  }

  pub marked_cleared : present before.places place ≡ true → (highest : ℕ) → Highest (set before.places place false) highest
      → MarkedAs false before place (record { places = set before.places place false; present = before.present - 1; highest = highest })
  marked_cleared e highest top = record {
    at = put_present before.places place inside false;
    truth = record { whole = rw length-set h.whole; counted = (let c = counted_cleared before.places place inside e l in let b = h.counted in omega arith); named = top };
  }
