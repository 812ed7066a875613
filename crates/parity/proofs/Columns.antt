-- Which columns of two stripes differ, and which columns are absent.
--   same_column, column_same   columns that do not differ have the same bytes, and the other way round
--   places_same                columns with the same bytes, place by place, do not differ
--   differs_back               s differs from v where v does from s
--   differs_alike              a stripe with the same column differs where the first does
--   differs_apart              stripes that differ in a column are two
--   Cover, cover               with at most two columns absent: two columns, of which no other is absent. Where fewer are absent, H or D fills up.
--   agrees-same                present columns that agree have the same bytes
use mathlib.Core.Path.{◌≡◌, refl, sym, ap, ◌∙◌}
use mathlib.Core.Logic.{◌≢◌, inl, inr, by_cases}
use mathlib.Core.Bool.{Bool, true, false, not, true≢false}
use mathlib.Core.List.{List}
use Prim.Native.Nat.{ℕ, ◌+◌, ◌-◌, ◌*◌, ◌≤◌, ◌<◌}
use native.Mathlib.Nat.{eq-or-lt_of_le}
use native.Mathlib.Decide.{dec_lt, ℕ_discrete}
use native.Mathlib.Omega.{arith}
use lib.Arith.{digits_lt}
use lib.Dec.{eqb}
use lib.ListN.{get_or}
use borrow.Author.Tests.{eqb-true, eq-eqb, ne_eqb}
use Rattle.parity.specs.Sum.{count}
use Rattle.parity.specs.Shape.{column_length}
use Rattle.parity.specs.Stripe.{byte}
use Rattle.parity.specs.Presence.{differs}
use Rattle.parity.proofs.Count.{none_pass, Last, last_pass, some_cong, some_false, false_some}

pub not-false : (b : Bool) → not b ≡ false → b ≡ true
not-false true e = refl
not-false false e = sym e

pub same_column : (m b : ℕ) (s v : List ℕ) (t : ℕ) → differs m b s v t ≡ false → (l i : ℕ) → l < b → i < m - 1 → byte m b s l i t ≡ byte m b v l i t
unfolding differs
same_column m b s v t e l i hl hi =
    eqb-true _ _ (not-false _ (some_false b _ (some_false (m - 1) _ e i hi) l hl))

pub column_same : (m b : ℕ) (s v : List ℕ) (t : ℕ) → ((l i : ℕ) → l < b → i < m - 1 → byte m b s l i t ≡ byte m b v l i t) → differs m b s v t ≡ false
unfolding differs
column_same m b s v t h = false_some (m - 1) _ (λ i hi. false_some b _ (λ l hl. ap not (eq-eqb _ _ (h l i hl hi))))

pub places_same : (m b : ℕ) (s v : List ℕ) (t : ℕ)
    → ((j : ℕ) → j < column_length m b → get_or s (t * column_length m b + j) 0 ≡ get_or v (t * column_length m b + j) 0) → differs m b s v t ≡ false
unfolding byte column_length
places_same m b s v t h = column_same m b s v t (λ l i hl hi. h (i * b + l) (digits_lt hi hl))

pub differs_back : (m b : ℕ) (s v : List ℕ) (t : ℕ) → differs m b s v t ≡ differs m b v s t
unfolding differs
differs_back m b s v t = some_cong (m - 1) (λ i hi. some_cong b (λ l hl. ap not (eqb_back (byte m b s l i t) (byte m b v l i t))))
  where
    eqb_back : (x y : ℕ) → eqb x y ≡ eqb y x
    eqb_back x y = by_cases (ℕ_discrete x y) (λ e. eq-eqb x y e ∙ sym (eq-eqb y x (sym e))) (λ ne. ne_eqb x y ne ∙ sym (ne_eqb y x (λ e. ne (sym e))))

pub differs_alike : (m b : ℕ) (s w v : List ℕ) (t : ℕ) → differs m b s w t ≡ false → differs m b s v t ≡ differs m b w v t
unfolding differs
differs_alike m b s w v t e =
    some_cong (m - 1) (λ i hi. some_cong b (λ l hl. ap (λ x. not (eqb x (byte m b v l i t))) (same_column m b s w t e l i hl hi)))

pub differs_apart : (m b : ℕ) (s v : List ℕ) (t : ℕ) → differs m b s v t ≡ true → s ≢ v
differs_apart m b s v t d e = true≢false (sym d ∙ ap (λ q. differs m b s q t) (sym e) ∙ column_same m b s s t (λ l i hl hi. refl))

pub other_way : (x y : ℕ) → x ≢ y → (x < y → ⊥) → y < x
other_way x y ne l = elim (dec_lt y x) [ yes h ↦ h | no h ↦ absurd (ne (omega arith)) ]

-- f u and f v are the only ones below k + 2 that may pass; if they are data columns, both do
pub record Cover (k : ℕ) (f : ℕ → Bool) : Type 0 where
  pub u : ℕ
  pub v : ℕ
  pub order : u < v
  pub below : v < k + 2
  pub both : v < k → (f u ≡ true) × (f v ≡ true)
  pub else : (t : ℕ) → t < k + 2 → t ≢ u → t ≢ v → f t ≡ false

pub cover : (k : ℕ) (f : ℕ → Bool) → count (k + 2) f ≤ 2 → Cover k f
cover k f few = elim (dec_lt 0 (count (k + 2) f)) [
  | no z ↦ record { u = k; v = k + 1; order = omega arith; below = omega arith; both = λ l. absurd (omega arith); else = λ t l a b. none_pass (k + 2) f (omega arith) t l }
  | yes p ↦ one (last_pass (k + 2) f p)
]
  where
    one : Last (k + 2) f → Cover k f
    one r = elim (dec_lt 0 (count r.at f)) [
      | no z ↦ elim (eq-or-lt_of_le {n = r.at} {m = k + 1} (let h = r.below in omega arith)) [
        | inl e ↦ record {
          u = k;
          v = k + 1;
          order = omega arith;
          below = omega arith;
          both = λ l. absurd (omega arith);
          else = λ t l a b. none_pass r.at f (omega arith) t (omega arith);
        }
        | inr h ↦ record {
          u = r.at;
          v = k + 1;
          order = h;
          below = omega arith;
          both = λ l. absurd (omega arith);
          else = λ t l a b. elim (dec_lt t r.at) [ yes c ↦ none_pass r.at f (omega arith) t c | no c ↦ r.above t (other_way t r.at a c) l ];
        }
      ]
      | yes p ↦ let q = last_pass r.at f p in record {
        u = q.at;
        v = r.at;
        order = q.below;
        below = r.below;
        both = λ l. (q.passes, r.passes);
        else = λ t l a b. elim (dec_lt r.at t) [
          | yes c ↦ r.above t c l
          | no c ↦ elim (dec_lt q.at t) [
            | yes d ↦ q.above t d (other_way r.at t (λ e. b (sym e)) c)
            | no d ↦ none_pass q.at f (let x = r.left in let y = q.left in omega arith) t (other_way q.at t (λ e. a (sym e)) d)
          ]
        ];
      }
    ]
