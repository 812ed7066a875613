-- Laws of the presence map's places.
--   past_all                   a place past the last is not present
--   absences_below, below-..   how many places below a place are absent
--   nth_one, absent_nth, others_present    there is one absent place with so many below it, and each is such a place; of at most two absent places the others are present
--   counts-..                  the gaps below 0, and below t + 1 where those below t are known
use mathlib.Core.Path.{◌≡◌, refl, sym, ap, ◌∙◌}
use mathlib.Core.Bool.{Bool, true, false, not}
use mathlib.Core.List.{List}
use Prim.Native.Nat.{ℕ, suc, ◌+◌, ◌≤◌, ◌<◌}
use native.Mathlib.Numerals.{add-one}
use native.Mathlib.Decide.{dec_lt}
use native.Mathlib.Omega.{arith}
use mathlib.Core.Logic.{◌≢◌, by_cases}
use lib.ListN.{length, get_or-eq_default}
use Rattle.parity.specs.Sum.{count}
use Rattle.parity.specs.Presence.{present, absences}
use Rattle.parity.proofs.Count.{count_most, count_under}
use Rattle.maps.specs.declared.Gaps.{Gaps}
use Rattle.maps.specs.Absent.{absent_below, NthAbsent, Counts}

pub past_all : (xs : List Bool) (t : ℕ) → length xs ≤ t → present xs t ≡ false
unfolding present
past_all xs t l = get_or-eq_default xs false l

module _ (map : List Bool) (t : ℕ) where
  below_present : present map t ≡ true → absent_below (t + 1) map ≡ absent_below t map
  unfolding absent_below count
  below_present e = rw (add-one, e)

  below_absent : present map t ≡ false → absent_below (t + 1) map ≡ suc (absent_below t map)
  unfolding absent_below count
  below_absent e = rw (add-one, e)

-- the columns that are absent are the absent places below k + 2
pub absences_below : (k : ℕ) (map : List Bool) → absences k map ≡ absent_below (k + 2) map
unfolding absences absent_below
absences_below k map = refl

pub below_most : (map : List Bool) (n : ℕ) → absent_below n map ≤ n
unfolding absent_below
below_most map n = count_most n _

-- an absent place below n is counted with those below it
pub below_under : (map : List Bool) (t n : ℕ) → present map t ≡ false → t < n → absent_below t map < absent_below n map
unfolding absent_below
below_under map t n e l = count_under n (λ x. not (present map x)) t (ap not e) l

module _ {map : List Bool} {t : ℕ} where
  -- no absent place comes to be number j
  nth_kept : {j x : ℕ} → NthAbsent t j map x → absent_below t map ≤ absent_below (t + 1) map → (j < absent_below (t + 1) map → j < absent_below t map) → NthAbsent (t + 1) j map x
  nth_kept {j} {x} n up old = record {
    found = λ l. let f = n.found (old l) in (omega (arith, f.0), f.1, f.2);
    none = λ l. n.none (omega arith);
  }

  -- place t comes to be it
  nth_found : {j : ℕ} → present map t ≡ false → absent_below t map ≡ j → NthAbsent (t + 1) j map t
  nth_found {j} e n = record { found = λ l. (omega arith, e, n); none = λ l. absurd (let x = below_absent map t e in omega arith) }

-- there is one absent place with so many below it
pub nth_one : (n j : ℕ) (map : List Bool) (t u : ℕ) → NthAbsent n j map t → NthAbsent n j map u → t ≡ u
nth_one n j map t u p q = by_cases (dec_lt j (absent_below n map))
    (λ l. let x = p.found l in let y = q.found l in
    by_cases (dec_lt t u) (λ c. absurd (let z = below_under map t u x.1 c in omega (arith, x.2, y.2)))
    (λ c. by_cases (dec_lt u t) (λ d. absurd (let z = below_under map u t y.1 d in omega (arith, x.2, y.2))) (λ d. omega arith)))
    (λ l. p.none (omega arith) ∙ sym (q.none (omega arith)))

pub absent_nth : (n : ℕ) (map : List Bool) (t : ℕ) → t < n → present map t ≡ false → NthAbsent n (absent_below t map) map t
absent_nth n map t l e = record { found = λ _. (l, e, refl); none = λ h. absurd (let z = below_under map t n e l in omega arith) }

-- of at most two absent places below n, the others are present
pub others_present : (n : ℕ) (map : List Bool) (f g : ℕ) → absent_below n map ≤ 2 → NthAbsent n 0 map f → NthAbsent n 1 map g
    → (t : ℕ) → t < n → t ≢ f → t ≢ g → present map t ≡ true
others_present n map f g few p q t l nf ng = go (present map t) refl
  where
    go : (b : Bool) → present map t ≡ b → present map t ≡ true
    go true e = e
    go false e =
        let under = below_under map t n e l in
        let here = absent_nth n map t l e in
        by_cases (dec_lt 0 (absent_below t map))
        (λ c. let z : absent_below t map ≡ 1 = omega arith in absurd (ng (nth_one n 1 map t g (rw z at here) q)))
        (λ c. let z : absent_below t map ≡ 0 = omega arith in absurd (nf (nth_one n 0 map t f (rw z at here) p)))

pub counts_none : (map : List Bool) → Counts 0 map (record { count = 0; first = 129; second = 129 })
unfolding absent_below count
counts_none map = record {
  count = refl;
  first = record { found = λ l. absurd (omega arith); none = λ _. refl };
  second = record { found = λ l. absurd (omega arith); none = λ _. refl };
}

module _ (map : List Bool) (t : ℕ) (g : Gaps) (c : Counts t map g) where
  pub counts_present : present map t ≡ true → Counts (t + 1) map g
  counts_present e =
      let n = below_present map t e in
      record { count = c.count ∙ sym n; first = nth_kept c.first (omega arith) (λ l. omega arith); second = nth_kept c.second (omega arith) (λ l. omega arith) }

  module _ (e : present map t ≡ false) where
    pub counts_first : g.count ≡ 0 → Counts (t + 1) map (record { count = 1; first = t; second = g.second })
    counts_first z =
        let n = below_absent map t e in
        let m = c.count in
        record { count = omega arith; first = nth_found e (omega arith); second = nth_kept c.second (omega arith) (λ l. omega arith) }

    pub counts_second : g.count ≡ 1 → Counts (t + 1) map (record { count = 2; first = g.first; second = t })
    counts_second z =
        let n = below_absent map t e in
        let m = c.count in
        record { count = omega arith; first = nth_kept c.first (omega arith) (λ l. omega arith); second = nth_found e (omega arith) }

    pub counts_more : 2 ≤ g.count → Counts (t + 1) map (record { count = g.count + 1; first = g.first; second = g.second })
    counts_more z =
        let n = below_absent map t e in
        let m = c.count in
        record { count = omega arith; first = nth_kept c.first (omega arith) (λ l. omega arith); second = nth_kept c.second (omega arith) (λ l. omega arith) }
