-- Where exactly two columns of a valid stripe were changed: the statements `TwoWrong` and `AnyThird` of specs/Theorems.
--   first_changed, second_changed, others_same   what differs, column by column
--   near_two    valid stripes that differ in no other column than two are one
use mathlib.Core.Path.{◌≡◌, refl, sym, ap, ◌∙◌}
use mathlib.Core.Logic.{◌≢◌, by_cases}
use mathlib.Core.Bool.{Bool, true, false, ◌||◌, cond, true≢false}
use mathlib.Core.List.{List, [], ◌∷◌}
use Prim.Native.Nat.{ℕ, ◌+◌, ◌<◌}
use native.Mathlib.Decide.{dec_lt, ℕ_discrete}
use native.Mathlib.Omega.{arith}
use lib.Dec.{eqb}
use borrow.Author.Tests.{eq-eqb, ne_eqb}
use Rattle.parity.specs.Shape.{member, Shape}
use Rattle.parity.specs.Stripe.{byte, Stripe, Valid}
use Rattle.parity.specs.Presence.{differs, differing, DifferIn}
use Rattle.parity.specs.Theorems.{Distance, TwoChanged, TwoWrong, AnyThird}
use Rattle.parity.proofs.Bytes.{build, build_byte, build_stripe}
use Rattle.parity.proofs.Count.{listed_pass}
use Rattle.parity.proofs.Columns.{same_column, column_same, differs_back, differs_alike, differs_apart, other_way}
use Rattle.parity.proofs.Stripes.{byte_lt, stripe_second}
use Rattle.parity.proofs.Theorems.{frame, served, near, distance}

or_true : (c : Bool) → (c || true) ≡ true
or_true true = refl
or_true false = refl

-- a number that is none of those listed
none_of_two : (x y t : ℕ) → t ≢ x → t ≢ y → member t (x ∷ y ∷ []) ≡ false
none_of_two x y t nx ny = rw (ne_eqb x t (λ e. nx (sym e)), ne_eqb y t (λ e. ny (sym e))) refl

-- what is said of the two columns that were changed, and of the others
module _ (m k b x y : ℕ) (s wrong : List ℕ) (c : TwoChanged m k b x y s wrong) where
  pub first_changed : differs m b s wrong x ≡ true
  first_changed = c.differ.at x c.first ∙ rw (eq-eqb x x refl) refl

  pub second_changed : differs m b s wrong y ≡ true
  second_changed = c.differ.at y c.second ∙ rw (eq-eqb y y refl) (or_true (eqb x y))

  pub others_same : (t : ℕ) → t < k + 2 → t ≢ x → t ≢ y → differs m b s wrong t ≡ false
  others_same t ht nx ny = c.differ.at t ht ∙ none_of_two x y t nx ny

module _ (m k b : ℕ) (h : Shape m k b) where
  -- valid stripes that differ in no other column than x and y are one
  pub near_two : (s v : List ℕ) → Valid m k b s → Valid m k b v → (x y : ℕ) → ((t : ℕ) → t < k + 2 → t ≢ x → t ≢ y → differs m b s v t ≡ false) → s ≡ v
  unfolding differing
  near_two s v vs vv x y same =
      near m k b h s v vs vv
      (listed_pass (k + 2) (x ∷ y ∷ []) (differs m b s v) (λ t ht other. same t ht
      (λ e. true≢false (rw (eq-eqb x t (sym e)) at other))
      (λ e. true≢false (sym (ap (λ c. eqb x t || (c || false)) (eq-eqb y t (sym e)) ∙ or_true (eqb x t)) ∙ other))))

  -- if s differs from wrong in x and y alone, and in y it does, no valid stripe differs from wrong in x alone
  not_the_first : (s wrong v : List ℕ) (x y : ℕ) → y < k + 2 → x ≢ y → Valid m k b s → Valid m k b v → differs m b s wrong y ≡ true
      → ((t : ℕ) → t < k + 2 → t ≢ x → t ≢ y → differs m b s wrong t ≡ false) → DifferIn m k b (eqb x) wrong v → ⊥
  not_the_first s wrong v x y hy ne vs vv there same d =
      let one : s ≡ v = near_two s v vs vv x y (λ t ht nx ny. differs_alike m b s wrong v t (same t ht nx ny) ∙ d.at t ht ∙ ne_eqb x t (λ e. nx (sym e))) in
      true≢false (sym there ∙ differs_back m b s wrong y ∙ ap (λ q. differs m b wrong q y) one ∙ d.at y hy ∙ ne_eqb x y ne)

  module _ (x y : ℕ) (s wrong : List ℕ) (c : TwoChanged m k b x y s wrong) where
    not_valid : Valid m k b wrong → ⊥
    not_valid vw = differs_apart m b s wrong x (first_changed m k b x y s wrong c) (near_two s wrong c.valid vw x y (others_same m k b x y s wrong c))

    module _ (u : ℕ) (v : List ℕ) (hu : u < k + 2) (vv : Valid m k b v) (e : DifferIn m k b (eqb u) wrong v) where
      not_x : u ≢ x
      not_x q = not_the_first s wrong v x y c.second c.apart c.valid vv (second_changed m k b x y s wrong c) (others_same m k b x y s wrong c) (rw q at e)

      not_y : u ≢ y
      not_y q =
          not_the_first s wrong v y x c.first (λ p. c.apart (sym p)) c.valid vv (first_changed m k b x y s wrong c)
          (λ t ht ny nx. others_same m k b x y s wrong c t ht nx ny) (rw q at e)

      all_three : DifferIn m k b (λ t. member t (x ∷ y ∷ u ∷ [])) s v
      all_three = record { at = λ t ht. by_cases (ℕ_discrete u t) (here t ht) (away t ht) }
        where
          here : (t : ℕ) → t < k + 2 → u ≡ t → differs m b s v t ≡ member t (x ∷ y ∷ u ∷ [])
          here t ht q =
              let nx : t ≢ x = λ p. not_x (q ∙ p) in let ny : t ≢ y = λ p. not_y (q ∙ p) in
              differs_alike m b s wrong v t (others_same m k b x y s wrong c t ht nx ny) ∙ e.at t ht
              ∙ rw (eq-eqb u t q, ne_eqb x t (λ p. nx (sym p)), ne_eqb y t (λ p. ny (sym p))) refl

          away : (t : ℕ) → t < k + 2 → u ≢ t → differs m b s v t ≡ member t (x ∷ y ∷ u ∷ [])
          away t ht q =
              differs_back m b s v t ∙ sym (differs_alike m b wrong v s t (e.at t ht ∙ ne_eqb u t q)) ∙ sym (differs_back m b s wrong t) ∙ c.differ.at t ht
              ∙ rw (ne_eqb u t q) refl

      three : differing m k b s v ≡ 3
      unfolding differing Distance
      three =
          let most = listed_pass (k + 2) (x ∷ y ∷ u ∷ []) (differs m b s v) (λ t ht other. all_three.at t ht ∙ other) in
          let least = distance m k b h s v c.valid vv (differs_apart m b s v x (all_three.at x c.first ∙ rw (eq-eqb x x refl) refl)) in
          omega (arith, most, least)

pub two_wrong : TwoWrong
unfolding TwoWrong
two_wrong m k b h x y s wrong c = (
  not_valid m k b h x y s wrong c,
  λ u v hu vv e. (
    not_x m k b h x y s wrong c u v hu vv e,
    not_y m k b h x y s wrong c u v hu vv e,
    all_three m k b h x y s wrong c u v hu vv e,
    three m k b h x y s wrong c u v hu vv e,
  ),
)

-- ---- any third column

-- a valid stripe that differs from s in column u, and in no other column but x and y: then it differs in these too
record Another (m k b : ℕ) (s : List ℕ) (x y u : ℕ) : Type 0 where
  v : List ℕ
  valid : Valid m k b v
  same : (t : ℕ) → t < k + 2 → t ≢ x → t ≢ y → t ≢ u → differs m b s v t ≡ false
  there : differs m b s v u ≡ true

module _ (m k b : ℕ) (h : Shape m k b) (s : List ℕ) (vs : Valid m k b s) where
  another : (x y u : ℕ) → x < y → y < k + 2 → u < k + 2 → u ≢ x → u ≢ y → Another m k b s x y u
  another x y u less hy hu nx ny =
      let big = h.value.prime.big in
      let (v, vv, same, there) = stripe_second m k b (frame m k b h) h.filled x y (served m k b h x y less hy) u hu nx ny s vs.stripe in
      record {
        v = v;
        valid = vv;
        same = λ t ht px py pu. column_same m b s v t (λ l i hl hi. same l i t hl hi ht px py pu);
        there = set (differs m b s v u) (λ e. there (same_column m b s v u e 0 0 h.filled (omega arith)));
      }
    where
      set : (c : Bool) → c ≢ false → c ≡ true
      set true n = refl
      set false n = absurd (n refl)

  module _ (x y u : ℕ) (nx : u ≢ x) (ny : u ≢ y) (a : Another m k b s x y u) where
    -- it does differ in a column that is one of two: otherwise it would be s, which is the same in column u
    differs_too : (z other : ℕ) → ((t : ℕ) → t < k + 2 → t ≢ z → t ≢ other → t ≢ u → differs m b s a.v t ≡ false) → differs m b s a.v z ≡ true
    differs_too z other same = go (differs m b s a.v z) refl
      where
        go : (c : Bool) → differs m b s a.v z ≡ c → c ≡ true
        go true e = refl
        go false e =
            let alike : s ≡ a.v
            = near_two m k b h s a.v vs a.valid other u (λ t ht po pu. by_cases (ℕ_discrete t z) (λ q. ap (differs m b s a.v) q ∙ e) (λ q. same t ht q po pu)) in
            absurd (differs_apart m b s a.v u a.there alike)

    listed : (t : ℕ) → t < k + 2 → u ≢ t → differs m b s a.v t ≡ member t (x ∷ y ∷ [])
    listed t ht q = by_cases (ℕ_discrete x t)
        (λ p. ap (differs m b s a.v) (sym p) ∙ differs_too x y a.same ∙ sym (rw (eq-eqb x t p) refl))
        (λ px. by_cases (ℕ_discrete y t)
        (λ p. ap (differs m b s a.v) (sym p) ∙ differs_too y x (λ t ht ny nx nu. a.same t ht nx ny nu) ∙ sym (rw (ne_eqb x t px, eq-eqb y t p) refl))
        (λ py. a.same t ht (λ p. px (sym p)) (λ p. py (sym p)) (λ p. q (sym p)) ∙ sym (none_of_two x y t (λ p. px (sym p)) (λ p. py (sym p)))))

    -- that stripe, with column u as it is in s
    abbrev mixed : List ℕ
    mixed = build m k b (λ l i t. cond (eqb u t) (byte m b s l i t) (byte m b a.v l i t))

    mixed_stripe : Stripe m k b mixed
    mixed_stripe = build_stripe m k b _ (λ l i t. elim (eqb u t) as (λ c. cond c (byte m b s l i t) (byte m b a.v l i t) < 256) [
      | true ↦ byte_lt m k b s vs.stripe l i t
      | false ↦ byte_lt m k b a.v a.valid.stripe l i t
    ])

    mixed_s : (t : ℕ) → t < k + 2 → u ≡ t → differs m b mixed s t ≡ false
    mixed_s t ht e = column_same m b mixed s t (λ l i hl hi. build_byte m k b _ l i t hl hi ht ∙ rw (eq-eqb u t e) refl)

    mixed_v : (t : ℕ) → t < k + 2 → u ≢ t → differs m b mixed a.v t ≡ false
    mixed_v t ht e = column_same m b mixed a.v t (λ l i hl hi. build_byte m k b _ l i t hl hi ht ∙ rw (ne_eqb u t e) refl)

    two_changed : DifferIn m k b (λ t. member t (x ∷ y ∷ [])) s mixed
    two_changed = record {
      at = λ t ht. by_cases (ℕ_discrete u t)
          (λ q. differs_back m b s mixed t ∙ mixed_s t ht q ∙ sym (none_of_two x y t (λ p. nx (q ∙ p)) (λ p. ny (q ∙ p))))
          (λ q. differs_back m b s mixed t ∙ differs_alike m b mixed a.v s t (mixed_v t ht q) ∙ sym (differs_back m b s a.v t) ∙ listed t ht q);
    }

    one_differs : DifferIn m k b (eqb u) mixed a.v
    one_differs = record {
      at = λ t ht. by_cases (ℕ_discrete u t)
          (λ q. differs_alike m b mixed s a.v t (mixed_s t ht q) ∙ ap (differs m b s a.v) (sym q) ∙ a.there ∙ sym (eq-eqb u t q))
          (λ q. mixed_v t ht q ∙ sym (ne_eqb u t q));
    }

pub any_third : AnyThird
unfolding AnyThird
any_third m k b h x y u hx hy hu ne nx ny s vs = go (elim (dec_lt x y) [
  | yes l ↦ another m k b h s vs x y u l hy hu nx ny
  | no l ↦ let r = another m k b h s vs y x u (other_way x y ne l) hx hu ny nx in
      record { v = r.v; valid = r.valid; same = λ t ht px py pu. r.same t ht py px pu; there = r.there }
])
  where
    go : Another m k b s x y u → (wrong : List ℕ) × TwoChanged m k b x y s wrong × ((v : List ℕ) × Valid m k b v × DifferIn m k b (eqb u) wrong v)
    go a = (
      mixed m k b h s vs x y u nx ny a,
      record {
        valid = vs;
        stripe = mixed_stripe m k b h s vs x y u nx ny a;
        first = hx;
        second = hy;
        apart = ne;
        differ = two_changed m k b h s vs x y u nx ny a;
      },
      (a.v, a.valid, one_differs m k b h s vs x y u nx ny a),
    )
