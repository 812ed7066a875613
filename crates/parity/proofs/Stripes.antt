-- Whole stripes, of which two served columns may be absent. A served pair is all that is asked of m besides being odd.
--   Alike m k b u v x y      the stripes have the same bytes but in columns u and v
--   stripe_determined        valid stripes that are alike are one
--   stripe_completed         a valid stripe that is alike is there, whatever the other columns hold
--   stripe_second            a third column changed gives another one
use mathlib.Core.Path.{◌≡◌, sym, ap, ◌∙◌}
use mathlib.Core.Logic.{◌≢◌}
use mathlib.Core.Bool.{true, false, cond}
use mathlib.Core.List.{List}
use Prim.Native.Nat.{ℕ, ◌+◌, ◌-◌, ◌%◌, ◌<◌}
use native.Mathlib.Nat.{mod-lt, mod-eq_of_lt}
use native.Mathlib.Omega.{arith}
use lib.Dec.{eqb, eqb_refl, eqb→eq, not_T}
use Rattle.parity.specs.Xor.{◌⊕◌}
use Rattle.parity.specs.Equations.{Lane, Holds}
use Rattle.parity.specs.Stripe.{byte, lane, Stripe, Valid}
use Rattle.parity.proofs.Xor.{xor, by_sum, ⊕_lt}
use Rattle.parity.proofs.Cells.{when_true, when_false, holds_same}
use Rattle.parity.proofs.Balance.{Frame, Served, But, at_most_one, at_least_one}
use Rattle.parity.proofs.Bytes.{stripe_ext, build, build_byte, build_stripe, holds_byte}

pub record Alike (m k b u v : ℕ) (x y : List ℕ) : Type 0 where
  pub at : (l i t : ℕ) → l < b → i < m - 1 → t < k + 2 → t ≢ u → t ≢ v → byte m b x l i t ≡ byte m b y l i t

pub byte_lt : (m k b : ℕ) (s : List ℕ) → Stripe m k b s → (l i t : ℕ) → byte m b s l i t < 256
unfolding byte
byte_lt m k b s st l i t = st.bytes _

-- byte l of the cell in row i of column w becomes another one
other : ℕ → Lane → Lane
other w a i t = cond (eqb t w) (a i t ⊕ 1) (a i t)

module _ (m k b : ℕ) (w : Frame m k) (full : 0 < b) (u v : ℕ) (s : Served m k u v) where
  pub stripe_determined : (x y : List ℕ) → Valid m k b x → Valid m k b y → Alike m k b u v x y → x ≡ y
  stripe_determined x y vx vy same =
      stripe_ext m k b w.big full x y vx.stripe.whole vy.stripe.whole (λ l i t hl hi ht.
      at_most_one m k w u v s (lane m b x l) (lane m b y l) (vx.lanes l hl) (vy.lanes l hl)
      (record { at = λ i t hi ht nu nv. same.at l i t hl hi ht nu nv }) i t hi ht)

  -- the stripe of lanes that hold and have f's bytes but in columns u and v
  from_lanes : (f : ℕ → Lane) → ((l i t : ℕ) → f l i t < 256)
      → (y : List ℕ) × Valid m k b y × ((l i t : ℕ) → l < b → i < m - 1 → t < k + 2 → t ≢ u → t ≢ v → f l i t ≡ byte m b y l i t)
  from_lanes f small = (
    build m k b g,
    record {
      stripe = build_stripe m k b g (λ l i t. mod-lt _ (omega arith));
      lanes = λ l hl. holds_same m k (g l) (lane m b (build m k b g) l) (λ i t hi ht. sym (build_byte m k b g l i t hl hi ht)) (holds_byte m k (filled l).0 (filled l).1);
    },
    λ l i t hl hi ht nu nv. sym (build_byte m k b g l i t hl hi ht ∙ ap (λ x. x % 256) (sym ((filled l).2.at i t hi ht nu nv)) ∙ mod-eq_of_lt (small l i t)),
  )
    where
      filled : (l : ℕ) → (a : Lane) × Holds m k a × But m k u v (f l) a
      filled l = at_least_one m k w u v s (f l)

      g : ℕ → Lane
      g l i t = (filled l).0 i t % 256

  pub stripe_completed : (x : List ℕ) → Stripe m k b x → (y : List ℕ) × Valid m k b y × Alike m k b u v x y
  stripe_completed x st =
      let r = from_lanes (lane m b x) (byte_lt m k b x st) in (r.0, r.1, record { at = r.2 })

  module _ (third : ℕ) (there : third < k + 2) (nu : third ≢ u) (nv : third ≢ v) where
    pub stripe_second : (x : List ℕ) → Stripe m k b x
        → (y : List ℕ) × Valid m k b y × ((l i t : ℕ) → l < b → i < m - 1 → t < k + 2 → t ≢ u → t ≢ v → t ≢ third → byte m b x l i t ≡ byte m b y l i t)
        × (byte m b x 0 0 third ≢ byte m b y 0 0 third)
    unfolding other
    stripe_second x st =
        let big = w.big in
        let r = from_lanes (λ l. other third (lane m b x l)) small in (
          r.0,
          r.1,
          λ l i t hl hi ht eu ev ew. sym (when_false (eqb t third) (byte m b x l i t ⊕ 1) (byte m b x l i t) (not_T (eqb t third) (λ e. ew (eqb→eq t third e)))) ∙ r.2 l i t hl hi ht eu ev,
          λ e. changed (byte m b x 0 0 third) (e ∙ sym (r.2 0 0 third full (omega arith) there nu nv) ∙ when_true (eqb third third) (byte m b x 0 0 third ⊕ 1) (byte m b x 0 0 third) (eqb_refl third)),
        )
      where
        changed : (a : ℕ) → a ≢ a ⊕ 1
        changed a e = let z : ◌≡◌ {A = ℕ} 0 1 = by_sum e (simp xor) in omega arith

        small : (l i t : ℕ) → other third (lane m b x l) i t < 256
        small l i t = elim (eqb t third) as (λ c. cond c (byte m b x l i t ⊕ 1) (byte m b x l i t) < 256) [
          | true ↦ ⊕_lt (byte m b x l i t) 1 (byte_lt m k b x st l i t) (omega arith)
          | false ↦ byte_lt m k b x st l i t
        ]
