-- Laws of the two numbers that a map keeps.
--   topped_none, topped_more       the top of no place, and of one place more
--   none_topped, topped_highest    the top of all places tells the highest
--   highest_one, highest_found     there is one highest place
--   true_parts                     a map that is made of places and of what they say
--   true_one, true_or_not, not_lying    the places determine a true map; each map is true or not, so that one that does not lie is true
--   put_present                    one place is set
--   counted_put, highest_here, highest_there, counted_cleared, highest_left    what that does to the two numbers
--   from_highest, absent_counted   of a true map: whether a place from n on is present, and how many columns are absent, by the two numbers
use mathlib.Core.Path.{◌≡◌, refl, sym, ap, ◌∙◌}
use mathlib.Core.Logic.{◌≢◌, ◌↔◌, by_cases}
use mathlib.Core.Bool.{Bool, true, false, cond, true≢false}
use mathlib.Core.List.{List}
use Prim.Native.Nat.{ℕ, suc, ◌+◌, ◌-◌, ◌*◌, ◌≤◌, ◌<◌}
use native.Mathlib.Nat.{zero-mul, one-mul}
use native.Mathlib.Decide.{ℕ_discrete, dec_lt}
use native.Mathlib.Omega.{arith}
use lib.Dec.{eqb, ltb}
use lib.ListN.{length, set}
use lib.Seq.{get_or-set_same, get_or-set_other}
use mir.Val.{bool_byte}
use borrow.Author.Tests.{lt-ltb, le-ltb, eq-eqb, ne_eqb}
use Rattle.parity.specs.Sum.{count}
use Rattle.parity.specs.Presence.{present, absences}
use Rattle.parity.proofs.Count.{last_pass, none_pass}
use Rattle.maps.specs.declared.Map.{Map}
use Rattle.maps.specs.Absent.{PresentFrom, Stray}
use Rattle.maps.specs.Maps.{OfPlaces}
use Rattle.maps.specs.Truth.{Highest, TrueMap, HighestFrom, absent_by_count}
use Rattle.maps.specs.Tops.{Topped}
use Rattle.maps.proofs.Absent.{past_all}
use Rattle.maps.proofs.Present.{same_count, both_counted, one_more}

-- ---- the highest place

pub topped_none : (places : List Bool) → Topped 0 places 0
topped_none places = record { most = omega arith; there = λ h. absurd (omega arith); above = λ t h l. absurd (omega arith) }

-- a place that is present gives its top, which is above those before it; another gives nothing
pub topped_more : (t : ℕ) (places : List Bool) (top r : ℕ) → Topped t places top
    → r ≡ cond (ltb top (bool_byte (present places t) * (t + 1))) (bool_byte (present places t) * (t + 1)) top → Topped (t + 1) places r
topped_more t places top r h e = go (present places t) refl
  where
    go : (b : Bool) → present places t ≡ b → Topped (t + 1) places r
    go true p =
        let here : bool_byte (present places t) * (t + 1) ≡ t + 1 = rw p (one-mul (t + 1)) in
        let q : r ≡ t + 1 = rw (here, lt-ltb top (t + 1) (let m = h.most in omega arith)) at e in
        record {
          most = omega arith;
          there = λ _. (let z : r - 1 ≡ t = omega arith in ap (present places) z ∙ p);
          above = λ x a l. absurd (omega arith);
        }
    go false p =
        let here : bool_byte (present places t) * (t + 1) ≡ 0 = rw p (zero-mul (t + 1)) in
        let q : r ≡ top = rw (here, le-ltb top 0 (omega arith)) at e in
        record {
          most = let m = h.most in omega arith;
          there = λ a. ap (λ (x : ℕ). present places (x - 1)) q ∙ h.there (omega arith);
          above = λ x a l. by_cases (dec_lt x t) (λ c. h.above x (omega arith) c) (λ c. let z : x ≡ t = omega arith in ap (present places) z ∙ p);
        }

module _ (places : List Bool) (whole : length places ≡ 129) (top : ℕ) (h : Topped 129 places top) where
  above_top : (t : ℕ) → top ≤ t → present places t ≡ false
  above_top t a = by_cases (dec_lt t 129) (λ l. h.above t a l) (λ l. past_all places t (omega arith))

  pub none_topped : top ≡ 0 → Highest places 129
  none_topped e = record { there = λ n. absurd (n refl); above = λ n. absurd (n refl); none = λ _ t. above_top t (omega arith) }

  pub topped_highest : 1 ≤ top → Highest places (top - 1)
  topped_highest l = record {
    there = λ _. h.there l;
    above = λ _ t a. above_top t (omega arith);
    none = λ e. absurd (let m = h.most in omega arith);
  }

pub highest_one : (places : List Bool) (x y : ℕ) → Highest places x → Highest places y → x ≡ y
highest_one places x y p q = go (ℕ_discrete x 129) (ℕ_discrete y 129)
  where
    go : Dec (x ≡ 129) → Dec (y ≡ 129) → x ≡ y
    go (yes e) (yes f) = e ∙ sym f
    go (yes e) (no f) = absurd (true≢false (sym (q.there f) ∙ p.none e y))
    go (no e) (yes f) = absurd (true≢false (sym (p.there e) ∙ q.none f x))
    go (no e) (no f) = by_cases (dec_lt x y)
        (λ l. absurd (true≢false (sym (q.there f) ∙ p.above e y l)))
        (λ n. by_cases (dec_lt y x) (λ l. absurd (true≢false (sym (p.there e) ∙ q.above f x l))) (λ m. omega arith))

pub highest_found : (places : List Bool) → length places ≡ 129 → (h : ℕ) × Highest places h
highest_found places whole = by_cases (dec_lt 0 (count 129 (present places))) some none
  where
    past : (t : ℕ) → 129 ≤ t → present places t ≡ false
    past t l = past_all places t (omega arith)

    some : 0 < count 129 (present places) → (h : ℕ) × Highest places h
    some l = let r = last_pass 129 (present places) l in (
      r.at,
      record {
        there = λ _. r.passes;
        above = λ _ t a. by_cases (dec_lt t 129) (λ c. r.above t a c) (λ c. past t (omega arith));
        none = λ e. absurd (let b = r.below in omega arith);
      },
    )

    none : (0 < count 129 (present places) → ⊥) → (h : ℕ) × Highest places h
    none n = (
      129,
      record {
        there = λ d. absurd (d refl);
        above = λ d. absurd (d refl);
        none = λ _ t. by_cases (dec_lt t 129) (λ c. none_pass 129 (present places) (omega arith) t c) (λ c. past t (omega arith));
      },
    )

-- ---- true maps

-- a map that is made of places and of what they say
pub true_parts : (places : List Bool) (n h : ℕ) (r : Map) → length places ≡ 129 → n ≡ count 129 (present places) → Highest places h
    → r ≡ record { places = places; present = n; highest = h } → OfPlaces places r
true_parts places n h r whole counted named e = rw e (record { same = refl; truth = record { whole = whole; counted = counted; named = named } })

pub true_one : (x y : Map) → TrueMap x → TrueMap y → x.places ≡ y.places → x ≡ y
true_one x y p q e =
    let n : x.present ≡ y.present = p.counted ∙ ap (λ (places : List Bool). count 129 (present places)) e ∙ sym q.counted in
    let h : x.highest ≡ y.highest = highest_one y.places x.highest y.highest (rw e at p.named) q.named in
    λ i. record { places = e i; present = n i; highest = h i }

pub true_or_not : (map : Map) → Dec (TrueMap map)
true_or_not map = go (ℕ_discrete (length map.places) 129) (ℕ_discrete map.present (count 129 (present map.places)))
  where
    go : Dec (length map.places ≡ 129) → Dec (map.present ≡ count 129 (present map.places)) → Dec (TrueMap map)
    go (no n) _ = no (λ t. n t.whole)
    go (yes w) (no n) = no (λ t. n t.counted)
    go (yes w) (yes c) = let (h, found) = highest_found map.places w in by_cases (ℕ_discrete map.highest h)
        (λ e. yes (record { whole = w; counted = c; named = rw e found }))
        (λ n. no (λ t. n (highest_one map.places map.highest h t.named found)))

pub not_lying : (map : Map) → ((TrueMap map → ⊥) → ⊥) → TrueMap map
not_lying map n = by_cases (true_or_not map) (λ t. t) (λ f. absurd (n f))

-- ---- one place is set

module _ (places : List Bool) (place : ℕ) (inside : place < length places) (state : Bool) where
  pub put_present : (t : ℕ) → present (set places place state) t ≡ cond (eqb t place) state (present places t)
  unfolding present
  put_present t = by_cases (ℕ_discrete t place)
      (λ e. rw (eq-eqb t place e, e) (get_or-set_same places place state false inside))
      (λ n. rw (ne_eqb t place n) (get_or-set_other places place t state false n))

  put_same : (t : ℕ) → t ≡ place → present (set places place state) t ≡ state
  put_same t e = put_present t ∙ ap (λ b. cond b state (present places t)) (eq-eqb t place e)

  put_other : (t : ℕ) → t ≢ place → present (set places place state) t ≡ present places t
  put_other t n = put_present t ∙ ap (λ b. cond b state (present places t)) (ne_eqb t place n)

-- it is marked present
module _ (places : List Bool) (place : ℕ) (inside : place < length places) where
  pub counted_put : place < 129 → present places place ≡ false → count 129 (present (set places place true)) ≡ suc (count 129 (present places))
  counted_put l e = one_more 129 place (present places) (present (set places place true)) l e (put_same places place inside true place refl) (put_other places place inside true)

  -- where it comes to be the highest, and where another stays it
  module _ (highest : ℕ) (h : Highest places highest) (l : place < 129) where
    pub highest_here : (highest ≢ 129 → highest ≤ place) → Highest (set places place true) place
    highest_here top = record {
      there = λ _. put_same places place inside true place refl;
      above = λ _ t a. put_other places place inside true t (λ e. omega arith) ∙ by_cases (ℕ_discrete highest 129) (λ e. h.none e t) (λ n. h.above n t (let m = top n in omega arith));
      none = λ e. absurd (omega arith);
    }

    pub highest_there : highest ≢ 129 → place ≤ highest → Highest (set places place true) highest
    highest_there n under = record {
      there = λ _. by_cases (ℕ_discrete highest place) (λ e. put_same places place inside true highest e) (λ d. put_other places place inside true highest d ∙ h.there n);
      above = λ _ t a. put_other places place inside true t (λ e. omega arith) ∙ h.above n t a;
      none = λ e. absurd (n e);
    }

-- it is marked absent
module _ (places : List Bool) (place : ℕ) (inside : place < length places) (e : present places place ≡ true) where
  pub counted_cleared : place < 129 → count 129 (present places) ≡ suc (count 129 (present (set places place false)))
  counted_cleared l =
      one_more 129 place (present (set places place false)) (present places) l (put_same places place inside false place refl) e (λ t n. sym (put_other places place inside false t n))

  -- where it is not the highest
  pub highest_left : (highest : ℕ) → Highest places highest → highest ≢ place → Highest (set places place false) highest
  highest_left highest h other = record {
    there = λ n. put_other places place inside false highest other ∙ h.there n;
    above = λ n t a. cleared t (h.above n t a);
    none = λ n t. cleared t (h.none n t);
  }
    where
      cleared : (t : ℕ) → present places t ≡ false → present (set places place false) t ≡ false
      cleared t f = by_cases (ℕ_discrete t place) (λ q. put_same places place inside false t q) (λ q. put_other places place inside false t q ∙ f)

-- ---- what the two numbers tell

module _ (map : Map) (h : TrueMap map) where
  pub from_highest : (n : ℕ) → PresentFrom n map.places ↔ HighestFrom n map
  from_highest n = (
    λ p.
        let some : map.highest ≢ 129 = λ e. true≢false (sym p.there ∙ h.named.none e p.at) in
        (some, by_cases (dec_lt map.highest n) (λ l. absurd (true≢false (sym p.there ∙ h.named.above some p.at (let a = p.above in omega arith)))) (λ l. omega arith)),
    λ p. record { at = map.highest; above = p.1; there = h.named.there p.0 },
  )

  pub absent_counted : (k : ℕ) → (Stray k map.places → ⊥) → (map.present ≤ k + 2) × (absences k map.places ≡ absent_by_count k map)
  unfolding absences
  absent_counted k clear =
      let e = counted (dec_lt 129 (k + 2)) in
      let b = both_counted (k + 2) (present map.places) in
      (omega arith, omega arith)
    where
      counted : Dec (129 < k + 2) → map.present ≡ count (k + 2) (present map.places)
      counted (yes l) = h.counted ∙ sym (same_count 129 map.places (λ p. true≢false (sym p.there ∙ past_all map.places p.at (let w = h.whole in let a = p.above in omega arith))) (k + 2) (omega arith))
      counted (no l) = h.counted ∙ same_count (k + 2) map.places clear 129 (omega arith)
