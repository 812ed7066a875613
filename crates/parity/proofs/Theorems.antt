-- What follows from the equations, for every shape: the statements of specs/Theorems. A prime enters in `prime_served` alone.
use mathlib.Core.Path.{◌≡◌, refl, sym, ap, ap₂, ◌∙◌}
use mathlib.Core.Logic.{◌≢◌, ◌↔◌, ◌⊎◌, inl, inr, by_cases}
use mathlib.Core.Bool.{Bool, true, false, not, true≢false}
use mathlib.Core.List.{List}
use Prim.Native.Nat.{ℕ, suc, ◌+◌, ◌-◌, ◌≤◌, ◌<◌}
use native.Mathlib.Decide.{dec_lt, ℕ_discrete}
use native.Mathlib.Omega.{arith}
use lib.Dec.{eqb}
use lib.ListN.{length, get_or}
use borrow.Author.Tests.{eq-eqb, ne_eqb, eqb-true, eqb-false, not-true}
use Rattle.parity.specs.Xor.{◌⊕◌}
use Rattle.parity.specs.Sum.{count, some}
use Rattle.parity.specs.Shape.{Prime, Shape, stripe_length}
use Rattle.parity.specs.Equations.{Lane, cell, back, H, S, D, amount_h, amount_d, Holds}
use Rattle.parity.specs.Stripe.{byte, lane, Stripe, Valid, broken_rows, broken_diagonals, Blank, SomeByte, Intact}
use Rattle.parity.specs.Presence.{present, absences, differs, differing, DifferIn, Agrees}
use Rattle.parity.specs.Theorems.{Distance, AtMostOne, ExactlyOne, NeverOne, AbsentUnread, OneWrong, CountsTell, IntactOrBlank}
use Rattle.parity.specs.Numbers.{Numbers}
use Rattle.parity.proofs.Xor.{⊕_self, ⊕_eq}
use Rattle.parity.proofs.Sum.{sum_none}
use Rattle.parity.proofs.Bytes.{zeros_past, each_place}
use Rattle.parity.proofs.Cells.{cell_real, cell_imaginary, cell_below}
use Rattle.parity.proofs.Count.{few_pass, none_pass, all_fail, Last, last_pass, some_false, false_some, some_true}
use Rattle.parity.proofs.Columns.{not-false, same_column, column_same, other_way, cover}
use Rattle.parity.proofs.Prime.{inverse}
use Rattle.parity.proofs.Table.{table}
use Rattle.parity.proofs.Numbers.{numbers_given}
use Rattle.parity.proofs.Balance.{Frame, Served}
use Rattle.parity.proofs.Stripes.{Alike, stripe_determined, stripe_completed, stripe_second}

pub frame : (m k b : ℕ) → Shape m k b → Frame m k
frame m k b h = record { odd = h.value.odd; big = h.value.prime.big; small = h.few }

-- where m is prime any two columns can be told from the others
pub prime_served : (m k : ℕ) → Prime m → k ≤ m → (u v : ℕ) → u < v → v < k + 2 → Served m k u v
prime_served m k prime few u v l top = record { order = l; there = top; inverse = λ c. inverse m prime (v - u) (omega arith) (omega arith) }

pub served : (m k b : ℕ) → Shape m k b → (u v : ℕ) → u < v → v < k + 2 → Served m k u v
served m k b h = prime_served m k h.value.prime h.few

-- ---- columns that cover the absent ones, or those that differ

absent_present : (map : List Bool) (t : ℕ) → not (present map t) ≡ false → present map t ≡ true
absent_present map t e = not-false (present map t) e

present_absent : {x : Bool} → x ≡ true → not x ≡ false
present_absent e = ap not e

apart : (f : ℕ → Bool) (t u : ℕ) → f u ≡ true → f t ≡ false → t ≢ u
apart f t u p q e = let z : true ≡ false = sym p ∙ sym (ap f e) ∙ q in let y : ◌≡◌ {A = ℕ} 0 1 = cc in omega arith

module _ (m k b : ℕ) (h : Shape m k b) where
  -- valid stripes that differ in at most two columns are one
  pub near : (s v : List ℕ) → Valid m k b s → Valid m k b v → differing m k b s v ≤ 2 → s ≡ v
  unfolding differing
  near s v vs vv few =
      let r = cover k (differs m b s v) few in
      stripe_determined m k b (frame m k b h) h.filled r.u r.v (served m k b h r.u r.v r.order r.below) s v vs vv
      (record { at = λ l i t hl hi ht nu nv. same_column m b s v t (r.else t ht nu nv) l i hl hi })

  module _ (map : List Bool) where
    agree_alike : (s v w : List ℕ) → Agrees m k b map s v → Agrees m k b map s w → (t : ℕ) → t < k + 2 → present map t ≡ true
        → (l i : ℕ) → l < b → i < m - 1 → byte m b v l i t ≡ byte m b w l i t
    agree_alike s v w av aw t ht p l i hl hi =
        sym (same_column m b s v t (av.at t ht p) l i hl hi) ∙ same_column m b s w t (aw.at t ht p) l i hl hi

    one : absences k map ≤ 2 → (s v w : List ℕ) → Valid m k b v → Valid m k b w → Agrees m k b map s v → Agrees m k b map s w → v ≡ w
    unfolding absences
    one few s v w vv vw av aw =
        let r = cover k (λ t. not (present map t)) few in
        stripe_determined m k b (frame m k b h) h.filled r.u r.v (served m k b h r.u r.v r.order r.below) v w vv vw
        (record { at = λ l i t hl hi ht nu nv. agree_alike s v w av aw t ht (absent_present map t (r.else t ht nu nv)) l i hl hi })

    -- two absent columns
    record Gaps : Type 0 where
      high : Last (k + 2) (λ t. not (present map t))
      low : Last high.at (λ t. not (present map t))

    gaps : 2 ≤ absences k map → Gaps
    unfolding absences
    gaps many =
        let q = last_pass (k + 2) (λ t. not (present map t)) (omega arith) in let x = q.left in
        record { high = q; low = last_pass q.at (λ t. not (present map t)) (omega arith) }

    module _ (g : Gaps) (s : List ℕ) (st : Stripe m k b s) where
      told : Served m k g.low.at g.high.at
      told = served m k b h g.low.at g.high.at g.low.below g.high.below

      two : (v : List ℕ) × Valid m k b v × Alike m k b g.low.at g.high.at s v
      two = stripe_completed m k b (frame m k b h) h.filled g.low.at g.high.at told s st

      two_agrees : Agrees m k b map s two.0
      two_agrees = record {
        at = λ t ht p. column_same m b s two.0 t (λ l i hl hi. two.2.at l i t hl hi ht
            (apart (λ t. not (present map t)) t g.low.at g.low.passes (present_absent p))
            (apart (λ t. not (present map t)) t g.high.at g.high.passes (present_absent p)));
      }

      third : (z : Last g.low.at (λ t. not (present map t))) → (w : List ℕ) × Valid m k b w × Agrees m k b map s w × (byte m b s 0 0 z.at ≢ byte m b w 0 0 z.at)
      third z =
          let lh = g.low.below in let hh = g.high.below in let zl = z.below in
          let r = stripe_second m k b (frame m k b h) h.filled g.low.at g.high.at told z.at (omega arith) (λ e. omega arith) (λ e. omega arith) s st in (
            r.0,
            r.1,
            record {
              at = λ t ht p. column_same m b s r.0 t (λ l i hl hi. r.2 l i t hl hi ht
                  (apart (λ t. not (present map t)) t g.low.at g.low.passes (present_absent p))
                  (apart (λ t. not (present map t)) t g.high.at g.high.passes (present_absent p))
                  (apart (λ t. not (present map t)) t z.at z.passes (present_absent p)));
            },
            r.3,
          )

pub distance : Distance
unfolding Distance
distance m k b h s v vs vv ne = elim (dec_lt 2 (differing m k b s v)) [ yes l ↦ l | no l ↦ absurd (ne (near m k b h s v vs vv (omega arith))) ]

pub at_most_one : AtMostOne
unfolding AtMostOne
at_most_one = one

pub exactly_one : ExactlyOne
unfolding ExactlyOne
exactly_one m k b h map e s st =
    let g = gaps m k b h map (omega arith) in
    let r = two m k b h map g s st in
    let a = two_agrees m k b h map g s st in
    (r.0, r.1, a, λ w vw aw. one m k b h map (omega arith) s w r.0 vw r.1 aw a)

pub never_one : NeverOne
unfolding NeverOne absences
never_one m k b h map many s st =
    let g = gaps m k b h map (omega arith) in
    let x = g.high.left in let y = g.low.left in
    let z = last_pass g.low.at (λ t. not (present map t)) (omega arith) in
    let r = two m k b h map g s st in
    let w = third m k b h map g s st z in
    let lh = g.low.below in let hh = g.high.below in let zl = z.below in let big = h.value.prime.big in (
      r.0,
      w.0,
      r.1,
      w.1,
      two_agrees m k b h map g s st,
      w.2,
      λ e. w.3 (r.2.at 0 0 z.at h.filled (omega arith) (omega arith) (λ e. omega arith) (λ e. omega arith) ∙ ap (λ q. byte m b q 0 0 z.at) e),
    )

pub absent_unread : AbsentUnread
unfolding AbsentUnread
absent_unread m k b map s r same v = (
  λ a. record { at = λ t ht p. column_same m b r v t (λ l i hl hi. sym (same_column m b s r t (same.at t ht p) l i hl hi) ∙ same_column m b s v t (a.at t ht p) l i hl hi) },
  λ a. record { at = λ t ht p. column_same m b s v t (λ l i hl hi. same_column m b s r t (same.at t ht p) l i hl hi ∙ same_column m b r v t (a.at t ht p) l i hl hi) },
)

-- ---- one wrong column

-- what differs in column x alone has the same bytes elsewhere
elsewhere : (m k b : ℕ) (s w : List ℕ) (x : ℕ) → DifferIn m k b (eqb x) s w → (t : ℕ) → t < k + 2 → t ≢ x
    → (l i : ℕ) → l < b → i < m - 1 → byte m b s l i t ≡ byte m b w l i t
elsewhere m k b s w x d t ht ne = same_column m b s w t (d.at t ht ∙ ne_eqb x t (λ e. ne (sym e)))

module _ (m k b : ℕ) (h : Shape m k b) (s u v : List ℕ) (vu : Valid m k b u) (vv : Valid m k b v) where
  -- two valid stripes, each of which differs from s in one of two columns alone, are one
  one_content : (x y : ℕ) → x < y → y < k + 2
      → ((t : ℕ) → t < k + 2 → t ≢ x → t ≢ y → (l i : ℕ) → l < b → i < m - 1 → (byte m b s l i t ≡ byte m b u l i t) × (byte m b s l i t ≡ byte m b v l i t)) → u ≡ v
  one_content x y less hy same =
      stripe_determined m k b (frame m k b h) h.filled x y (served m k b h x y less hy) u v vu vv
      (record { at = λ l i t hl hi ht nx ny. let e = same t ht nx ny l i hl hi in sym e.0 ∙ e.1 })

  -- columns x < y can't both be to blame: the two valid stripes would be one, which differs from s in column x and does not
  not_both : (x y : ℕ) → x < y → y < k + 2 → DifferIn m k b (eqb x) s u → DifferIn m k b (eqb y) s v → ⊥
  not_both x y less hy du dv =
      let one_stripe : u ≡ v = one_content x y less hy (λ t ht nx ny l i hl hi. (elsewhere m k b s u x du t ht nx l i hl hi, elsewhere m k b s v y dv t ht ny l i hl hi)) in
      true≢false (sym (eq-eqb x x refl) ∙ sym (du.at x (omega arith)) ∙ ap (λ q. differs m b s q x) one_stripe ∙ dv.at x (omega arith) ∙ ne_eqb y x (λ e. omega arith))

  -- one column, one content
  same_blame : (x : ℕ) → x < k + 2 → DifferIn m k b (eqb x) s u → DifferIn m k b (eqb x) s v → u ≡ v
  same_blame x hx du dv = elim (dec_lt x (k + 1)) [
    | yes l ↦ one_content x (k + 1) l (omega arith) (λ t ht nx ny. both t ht nx)
    | no l ↦ one_content k (k + 1) (omega arith) (omega arith) (λ t ht nx ny. both t ht (λ e. ny (omega arith)))
  ]
    where
      both : (t : ℕ) → t < k + 2 → t ≢ x → (l i : ℕ) → l < b → i < m - 1 → (byte m b s l i t ≡ byte m b u l i t) × (byte m b s l i t ≡ byte m b v l i t)
      both t ht nx l i hl hi = (elsewhere m k b s u x du t ht nx l i hl hi, elsewhere m k b s v x dv t ht nx l i hl hi)

pub one_wrong : OneWrong
unfolding OneWrong
one_wrong m k b h s u v x y hx hy vu vv du dv = elim (ℕ_discrete x y) [
  | yes e ↦ (e, same_blame m k b h s u v vu vv x hx du (rw e dv))
  | no e ↦ elim (dec_lt x y) [
    | yes l ↦ absurd (not_both m k b h s u v vu vv x y l hy du dv)
    | no l ↦ absurd (not_both m k b h s v u vv vu y x (other_way x y e l) hx dv du)
  ]
]

-- stripes that differ in exactly one column differ in at most one
pub few_differ : (m k b u : ℕ) (s v : List ℕ) → DifferIn m k b (eqb u) s v → differing m k b s v ≤ 1
unfolding differing
few_differ m k b u s v d = few_pass (k + 2) u (differs m b s v) (λ t ht ne. d.at t ht ∙ ne_eqb u t (λ e. ne (sym e)))

-- ---- the counts

module _ (m k b : ℕ) (s : List ℕ) where
  -- the amounts that `some b` looks at in row i
  none_breaks : (f : ℕ → ℕ → ℕ) → count (m - 1) (λ i. some b (λ l. not (eqb (f l i) 0))) ≡ 0 → (l i : ℕ) → l < b → i < m - 1 → f l i ≡ 0
  none_breaks f e l i hl hi = eqb-true _ _ (not-false _ (some_false b _ (none_pass (m - 1) _ e i hi) l hl))

  breaks_none : (f : ℕ → ℕ → ℕ) → ((l i : ℕ) → l < b → i < m - 1 → f l i ≡ 0) → count (m - 1) (λ i. some b (λ l. not (eqb (f l i) 0))) ≡ 0
  breaks_none f h = all_fail (m - 1) _ (λ i hi. false_some b _ (λ l hl. ap not (eq-eqb _ _ (h l i hl hi))))

-- the equations hold in every lane exactly when both counts are zero
pub lanes_counted : (m k b : ℕ) (s : List ℕ)
    → ((l : ℕ) → l < b → Holds m k (lane m b s l)) ↔ ((broken_rows m k b s ≡ 0) × (broken_diagonals m k b s ≡ 0))
unfolding broken_rows broken_diagonals amount_h amount_d
lanes_counted m k b s = (
  λ v. (
    breaks_none m k b s (λ l i. amount_h m k (lane m b s l) i) (λ l i hl hi. ap (λ x. x ⊕ H m k (lane m b s l) i) ((v l hl).h i hi) ∙ ⊕_self _),
    breaks_none m k b s (λ l i. amount_d m k (lane m b s l) i) (λ l i hl hi. ap (λ x. x ⊕ D m k (lane m b s l) i) ((v l hl).d i hi) ∙ ⊕_self _),
  ),
  λ n l hl. record {
    h = λ i hi. ⊕_eq _ _ (none_breaks m k b s (λ l i. amount_h m k (lane m b s l) i) n.0 l i hl hi);
    d = λ i hi. ⊕_eq _ _ (none_breaks m k b s (λ l i. amount_d m k (lane m b s l) i) n.1 l i hl hi);
  },
)

-- ---- blank stripes

-- the equations hold of a lane of zeros
zero_holds : (m k : ℕ) (a : Lane) → ((i t : ℕ) → i < m - 1 → t < k + 2 → a i t ≡ 0) → Holds m k a
unfolding H D S
zero_holds m k a z = record {
  h = λ i hi. z i k hi (omega arith) ∙ sym (sum_none m (λ t l. at i t));
  d = λ i hi. z i (k + 1) hi (omega arith)
      ∙ sym (ap₂ ◌⊕◌ (sum_none (m - 1) (λ j l. at (m - 1 - suc j) (suc j))) (sum_none m (λ t l. at (back m i t) t)) ∙ ⊕_self 0);
}
  where
    at : (i t : ℕ) → cell m k a i t ≡ 0
    at i t =
        by_cases (dec_lt i (m - 1))
        (λ hi. by_cases (dec_lt t k) (λ ht. cell_real m k a i t hi ht ∙ z i t hi (omega arith)) (λ no. cell_imaginary m k a i t (omega arith)))
        (λ no. cell_below m k a i t (omega arith))

module _ (m k b : ℕ) (s : List ℕ) where
  pub blank_holds : Blank m k b s → (l : ℕ) → l < b → Holds m k (lane m b s l)
  blank_holds z l hl = zero_holds m k (lane m b s l) (λ i t hi ht. z.zeros l i t hl hi ht)

  -- either every byte of a stripe is zero, or some byte is not, and never both
  pub not_both_blank : SomeByte m k b s → Blank m k b s → ⊥
  not_both_blank w z = w.there (z.zeros w.l w.i w.t w.inside.0 w.inside.1 w.inside.2)

  pub blank_or_not : Blank m k b s ⊎ SomeByte m k b s
  blank_or_not = go (some b set) refl
    where
      set : ℕ → Bool
      set l = some (m - 1) (λ i. some (k + 2) (λ t. not (eqb (byte m b s l i t) 0)))

      go : (c : Bool) → some b set ≡ c → Blank m k b s ⊎ SomeByte m k b s
      go true e =
          let (l, hl, p) = some_true b set e in
          let (i, hi, q) = some_true (m - 1) _ p in
          let (t, ht, r) = some_true (k + 2) _ q in
          inr (record { l = l; i = i; t = t; inside = (hl, hi, ht); there = eqb-false _ _ (not-true _ r) })
      go false e = inl (record {
        zeros = λ l i t hl hi ht. eqb-true _ _ (not-false _ (some_false (k + 2) _ (some_false (m - 1) _ (some_false b set e l hl) i hi) t ht));
      })

  -- a blank stripe has no other number than zero, past its end either, and is valid
  module _ (h : Shape m k b) (whole : length s ≡ stripe_length m k b) (z : Blank m k b s) where
    pub blank_zeros : (x : ℕ) → get_or s x 0 ≡ 0
    blank_zeros x =
        zeros_past s (each_place m k b h.value.prime.big h.filled (λ y. y ≡ 0) s whole z.zeros) x

    pub blank_valid : Valid m k b s
    blank_valid = record { stripe = record { whole = whole; bytes = λ x. omega (arith, blank_zeros x) }; lanes = blank_holds z }

pub counts_tell : CountsTell
unfolding CountsTell
counts_tell m k b s st = (λ v. (lanes_counted m k b s).0 v.lanes, λ n. record { stripe = st; lanes = (lanes_counted m k b s).1 n })

pub intact_or_blank : IntactOrBlank
unfolding IntactOrBlank CountsTell
intact_or_blank m k b s st = ((λ v. go v (blank_or_not m k b s), back), λ n z. not_both_blank m k b s n.some z)
  where
    go : Valid m k b s → Blank m k b s ⊎ SomeByte m k b s → Intact m k b s ⊎ Blank m k b s
    go v (inl z) = inr z
    go v (inr w) = let (rows, diagonals) = (counts_tell m k b s st).0 v in inl (record { rows = rows; diagonals = diagonals; some = w })

    back : Intact m k b s ⊎ Blank m k b s → Valid m k b s
    back (inl n) = (counts_tell m k b s st).1 (n.rows, n.diagonals)
    back (inr z) = record { stripe = st; lanes = blank_holds m k b s z }

-- ---- the numbers

pub numbers_hold : Numbers
numbers_hold = numbers_given table at_most_one
