-- Laws of show.
--   NotRefused                   what holds where none of its rules applies
--   passes, not_refused          its rules pass exactly where none applies
--   show_4                       it refuses with 4 where those before it do not apply
--   show_named                   what holds past them
--   start_most                   the start of a column that is named fits a number
--   show_stripe, show_first, show_second    where a column lies: in the stripe, in the first and in the second half of the bench
--   in_stripe, in_bench          and what an answer says of it
--   stripe_fits, bench_fits      the part lies within the buffer
--   part_of                      a part that is lent is the part that is meant
use mathlib.Core.Path.{◌≡◌, refl, sym, ap, ◌∙◌}
use mathlib.Core.Logic.{◌≢◌, by_cases}
use mathlib.Core.Bool.{Bool, true, false}
use mathlib.Core.List.{List, [], ◌∷◌}
use Prim.Native.Nat.{ℕ, suc, ◌+◌, ◌-◌, ◌*◌, ◌≤◌, ◌<◌}
use native.Mathlib.Nat.{mul-le-mul_right, suc-mul, zero-mul, one-mul}
use native.Mathlib.Decide.{dec_lt}
use native.Mathlib.Omega.{arith}
use lib.ListN.{length, take, drop}
use denote.Ref.{Bor}
use borrow.Rule.Slice.PartAt.{sl_partˢ}
use borrow.Rule.Slice.Shared.{by_byte}
use Rattle.parity.specs.Shape.{Shape, column_length, stripe_length, bench_length}
use Rattle.parity.specs.Presence.{present, absences}
use Rattle.maps.specs.declared.Gaps.{Gaps}
use Rattle.maps.proofs.Absent.{absences_below, below_under}
use Rattle.maps.specs.declared.Map.{Map}
use Rattle.evenodd.specs.declared.shows.Place.TheVariants.{InStripe, InBench}
use Rattle.std.specs.Prelude.{Ok, Err}
use Rattle.refusals.specs.declared.Refusal.TheVariants.{Ambiguous}
use Rattle.refusals.specs.Refusals.{pass, Rule, Gives}
use Rattle.maps.specs.Absent.{Stray, absent_below, Counts}
use Rattle.maps.specs.Truth.{TrueMap, absent_by_count}
use Rattle.inputs.specs.Rules.{no_such_column, too_many_absent, lent_rules, show_rules}
use Rattle.evenodd.specs.Shows.{half, Places, PartOf}
use Rattle.refusals.proofs.Rules.{passes_not, gives_first, gives_next, gives_after, gives_passed, passed_first}
use Rattle.inputs.proofs.ShapeLaws.{places_most, parts_most}
use Rattle.inputs.proofs.Tests.{Lent, lent_given, lent_passed}
use Rattle.maps.proofs.Truth.{absent_counted}

pub record NotRefused (m k b : ℕ) (map : Map) (s bench : List ℕ) (column : ℕ) : Type 0 where
  pub shape : Shape m k b
  pub stripe : length s ≡ stripe_length m k b
  pub held : length bench ≡ bench_length m b
  pub truth : TrueMap map
  pub clear : Stray k map.places → ⊥
  pub named : column < k + 2
  pub few : absences k map.places ≤ 2

-- show's rules after those that it shares with restore
abbrev last_rules : ℕ → Map → ℕ → List Rule
last_rules k map column = no_such_column k column ∷ too_many_absent k map ∷ []

module _ (m k b : ℕ) (map : Map) (s bench : List ℕ) (column : ℕ) where
  pub passes : NotRefused m k b map s bench column → Gives (show_rules m k b map (length s) (length bench) column) pass
  passes p =
      gives_after (lent_rules m k b map (length s) (length bench)) (last_rules k map column) pass
      (lent_passed m k b (length s) map (length bench) (record { shape = p.shape; stripe = p.stripe; held = p.held; truth = p.truth; clear = p.clear }))
      (gives_next (λ h. omega arith) (gives_next (λ h. omega arith) refl))

  pub not_refused : Gives (show_rules m k b map (length s) (length bench) column) pass → NotRefused m k b map s bench column
  not_refused g =
      let (lent, last) = gives_passed (lent_rules m k b map (length s) (length bench)) (last_rules k map column) g in
      let fits = lent_given m k b (length s) map (length bench) lent in
      let (named, four) = passed_first last in
      let (few, _) = passed_first four in
      record { shape = fits.shape; stripe = fits.stripe; held = fits.held; truth = fits.truth; clear = fits.clear; named = omega arith; few = omega arith }

module _ (m k b : ℕ) (map : Map) (s bench : List ℕ) (column : ℕ) {c : ℕ} (lent : Lent m k b (length s) map (length bench) c) (named : column < k + 2) where
  -- so many columns are absent as the count leaves of k + 2
  counted : absences k map.places ≡ absent_by_count k map
  counted = (absent_counted map lent.truth k lent.clear).1

  pub show_4 : 2 < absent_by_count k map → Places m k b map s bench column (Err Ambiguous)
  show_4 h = record {
    told = gives_after (lent_rules m k b map (length s) (length bench)) (last_rules k map column) _ lent.tests
        (gives_next (λ n. omega arith) (gives_first (let e = counted in omega arith)));
    lies = λ p. absurd (passes_not Ambiguous (sym p));
  }

  pub show_named : absent_by_count k map ≤ 2 → NotRefused m k b map s bench column
  show_named h = record {
    shape = lent.numbers.shape;
    stripe = lent.numbers.stripe;
    held = lent.held;
    truth = lent.truth;
    clear = lent.clear;
    named = named;
    few = let e = counted in omega arith;
  }

-- an absent column that show names has at most one absent column below it
half_most : {m k b : ℕ} {map : Map} {s bench : List ℕ} {column : ℕ} → NotRefused m k b map s bench column → present map.places column ≡ false → half map.places column ≤ 1
unfolding half
half_most {k = k} {map = map} {column = column} p e =
    let u = below_under map.places column (k + 2) e p.named in
    let q = absences_below k map.places in
    omega arith

-- the lowest absent column has none below it, and any other has one
module _ {n : ℕ} {map : List Bool} {g : Gaps} (counts : Counts n map g) {column : ℕ} (l : column < n) (e : present map column ≡ false) where
  lowest : (g.first < n) × (present map g.first ≡ false) × (absent_below g.first map ≡ 0)
  lowest = counts.first.found (let u = below_under map column n e l in omega arith)

  half_first : column ≡ g.first → half map column ≡ 0
  unfolding half
  half_first q = rw q lowest.2

  half_second : column ≢ g.first → 1 ≤ half map column
  unfolding half
  half_second f =
      let (_, there, none) = lowest in
      by_cases (dec_lt column g.first)
      (λ h. absurd (let x = below_under map column g.first e h in omega arith))
      (λ h. let x = below_under map g.first column there (omega arith) in omega arith)

module _ {m k b : ℕ} {map : Map} {s bench : List ℕ} {column c : ℕ} (p : NotRefused m k b map s bench column) (q : c ≡ column_length m b) where
  pub start_most : column * c ≤ 66576384
  start_most = parts_most p.shape q column (let n = places_most p.shape in let l = p.named in omega arith)

  pub show_stripe : present map.places column ≡ true → Places m k b map s bench column (Ok (InStripe (column * c) c))
  show_stripe e = record { told = passes m k b map s bench column p; lies = λ _. record { from = rw e; start = rw e (ap (λ n. column * n) q); size = q } }

  module _ {g : Gaps} (counts : Counts (k + 2) map.places g) (e : present map.places column ≡ false) where
    pub show_first : column ≡ g.first → Places m k b map s bench column (Ok (InBench 0 c))
    show_first f = record { told = passes m k b map s bench column p; lies = λ _. record { from = rw e; start = rw (e, half_first counts p.named e f) (sym (zero-mul (column_length m b))); size = q } }

    pub show_second : column ≢ g.first → Places m k b map s bench column (Ok (InBench c c))
    show_second f =
        let one : half map.places column ≡ 1 = (let x = half_second counts p.named e f in let y = half_most p e in omega arith) in
        record { told = passes m k b map s bench column p; lies = λ _. record { from = rw e; start = rw (e, one) (q ∙ sym (one-mul (column_length m b))); size = q } }

-- what the answers say
module _ {m k b : ℕ} {map : Map} {s bench : List ℕ} {column start n : ℕ} where
  pub in_stripe : Places m k b map s bench column (Ok (InStripe start n)) → (present map.places column ≡ true) × (start ≡ column * column_length m b) × (n ≡ column_length m b)
  in_stripe h = go (present map.places column) refl
    where
      go : (p : Bool) → present map.places column ≡ p → (present map.places column ≡ true) × (start ≡ column * column_length m b) × (n ≡ column_length m b)
      go true e = (e, rw e at (h.lies refl).start, (h.lies refl).size)
      go false e = absurd (let z : ◌≡◌ {A = ℕ} 0 1 = rw e at (h.lies refl).from in omega arith)

  pub in_bench : Places m k b map s bench column (Ok (InBench start n))
      → (present map.places column ≡ false) × (start ≡ half map.places column * column_length m b) × (n ≡ column_length m b)
  in_bench h = go (present map.places column) refl
    where
      go : (p : Bool) → present map.places column ≡ p
          → (present map.places column ≡ false) × (start ≡ half map.places column * column_length m b) × (n ≡ column_length m b)
      go true e = absurd (let z : ◌≡◌ {A = ℕ} 1 0 = rw e at (h.lies refl).from in omega arith)
      go false e = (e, rw e at (h.lies refl).start, (h.lies refl).size)

-- the end of part t of n parts of c bytes each
part_end : (t n c : ℕ) → t < n → t * c + c ≤ n * c
part_end t n c l = let x = suc-mul t c in let y : suc t * c ≤ n * c = mul-le-mul_right c l in omega arith

module _ {m k b : ℕ} {map : Map} {s bench : List ℕ} {column start n : ℕ} where
  pub stripe_fits : Places m k b map s bench column (Ok (InStripe start n)) → start + n ≤ length s
  unfolding stripe_length
  stripe_fits h =
      let p = not_refused m k b map s bench column h.told in
      let (_, at, size) = in_stripe h in
      rw (at, size, p.stripe) (part_end column (k + 2) (column_length m b) p.named)

  pub bench_fits : Places m k b map s bench column (Ok (InBench start n)) → start + n ≤ length bench
  unfolding bench_length
  bench_fits h =
      let p = not_refused m k b map s bench column h.told in
      let (absent, at, size) = in_bench h in
      let most = half_most p absent in
      rw (at, size, p.held) (part_end (half map.places column) 2 (column_length m b) (omega arith))

-- a part that is lent is the part that is meant
pub part_of : (x : Bor (List ℕ)) (at n : ℕ) → PartOf x at n (sl_partˢ x (by_byte at x.ref_ptr.1) at (at + n))
part_of x at n = record { block = refl; place = refl; bytes = let e : at + n - at ≡ n = omega arith in ap (λ k. take k (drop at x.now)) e }
