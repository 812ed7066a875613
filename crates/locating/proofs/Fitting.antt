-- Which column can be the wrong one of a lane, told from the amounts h and d by which its rows and diagonals break.
--   fit_data               a data column
--   fit_none               no column
--   first_turned           the first data column that can, if one can
--   fit_holds, holds_fit   column u can exactly when its candidate obeys the equations
--   judged                 so what the amounts of one lane that breaks say of it is said of the whole stripe
use mathlib.Core.Path.{◌≡◌, sym, ap, ap₂, ◌∙◌}
use mathlib.Core.List.{List}
use Rattle.std.specs.Prelude.{Option, Some, None, MatchOption}
use Prim.Native.Nat.{ℕ, ◌+◌, ◌-◌, ◌%◌, ◌≤◌, ◌<◌}
use native.Mathlib.Decide.{ℕ_discrete, dec_lt}
use native.Mathlib.Omega.{arith}
use Rattle.parity.specs.Xor.{◌⊕◌}
use Rattle.parity.specs.Shape.{Prime}
use Rattle.parity.specs.Equations.{Lane, back, amount_h, amount_d, Holds}
use Rattle.parity.specs.Stripe.{lane}
use Rattle.parity.specs.Candidate.{candidate}
use Rattle.parity.proofs.Xor.{⊕_self, ⊕_eq}
use Rattle.parity.proofs.Candidate.{row_amount, row_amount_lem, candidate_H, candidate_D}
use Rattle.parity.proofs.Suspects.{hold_h, hold_d, amounts_hold, candidate_H_h, candidate_H_d, candidate_D_h, candidate_D_d, one_suspect}
use Rattle.parity.proofs.Theorems.{prime_served}
use Rattle.lines.proofs.Lines.{back_lt}
use Rattle.locating.specs.Locating.{Suspects, TurnedAmounts, Fit, Blames}

module _ (m k : ℕ) (h d : ℕ → ℕ) where
  pub fit_data : (u : ℕ) → u < k → TurnedAmounts m h d u → Fit m k h d u
  fit_data u l so = record { datum = λ _. so; rows = λ e. absurd (omega arith); diagonals = λ e. absurd (omega arith) }

  pub fit_none : ((x : ℕ) → x < k → TurnedAmounts m h d x → ⊥) → (((i : ℕ) → i < m - 1 → d i ≡ 0) → ⊥) → (((i : ℕ) → i < m - 1 → h i ≡ 0) → ⊥)
      → (x : ℕ) → x < k + 2 → Fit m k h d x → ⊥
  fit_none turned rows diagonals x inside f = elim (dec_lt x k) [
    | yes l ↦ turned x l (f.datum l)
    | no l ↦ elim (ℕ_discrete x k) [ yes e ↦ rows (f.rows e) | no ne ↦ diagonals (f.diagonals (omega arith)) ]
  ]

  -- the first data column by which they are turned, if one is
  pub first_turned : (((i : ℕ) → i < m - 1 → d i ≡ 0) → ⊥) → (((i : ℕ) → i < m - 1 → h i ≡ 0) → ⊥) → (r : Option ℕ)
      → MatchOption r ((x : ℕ) → 0 ≤ x → x < k → TurnedAmounts m h d x → ⊥) (λ u. (0 ≤ u) × (u < k) × TurnedAmounts m h d u × ((x : ℕ) → 0 ≤ x → x < u → TurnedAmounts m h d x → ⊥))
      → Blames m k h d r
  first_turned rows diagonals None none = fit_none (λ x l. none x (omega arith) l) rows diagonals
  first_turned rows diagonals (Some u) (_, l, turned, _) = (omega arith, fit_data u l turned)

module _ (m k : ℕ) (big : 1 < m) (few : k ≤ m) (a : Lane) (h d : ℕ → ℕ) (rows : (i : ℕ) → i < m → h i ≡ row_amount m k a i) (diagonals : (i : ℕ) → i < m - 1 → d i ≡ amount_d m k a i) where
  row : (i : ℕ) → i < m - 1 → h i ≡ amount_h m k a i
  row i l = rows i (omega arith) ∙ row_amount_lem m k a i l

  -- the two rows that column u brings to diagonal i
  two : (u i : ℕ) → h (back m i u) ⊕ h (back m (m - 1) u) ≡ row_amount m k a (back m i u) ⊕ row_amount m k a (back m (m - 1) u)
  two u i = ap₂ ◌⊕◌ (rows (back m i u) (back_lt m i u (omega arith))) (rows (back m (m - 1) u) (back_lt m (m - 1) u (omega arith)))

  pub fit_holds : (u : ℕ) → u < k + 2 → Fit m k h d u → Holds m k (candidate m k a u)
  fit_holds u inside f = elim (dec_lt u k) [
    | yes l ↦ amounts_hold m k (candidate m k a u) (candidate_H m k a few u l) (λ i hi.
        candidate_D m k a big few u l i hi ∙ ap (λ (x : ℕ). x ⊕ (row_amount m k a (back m i u) ⊕ row_amount m k a (back m (m - 1) u))) (sym (diagonals i hi) ∙ f.datum l i hi ∙ two u i) ∙ ⊕_self _)
    | no l ↦ elim (ℕ_discrete u k) [
      | yes e ↦ rw e (amounts_hold m k (candidate m k a k) (λ i _. candidate_H_h m k a i) (λ i hi. candidate_H_d m k a i ∙ sym (diagonals i hi) ∙ f.rows e i hi))
      | no ne ↦ let e : u ≡ k + 1 = omega arith in
          rw e (amounts_hold m k (candidate m k a (k + 1)) (λ i hi. candidate_D_h m k a i ∙ sym (row i hi) ∙ f.diagonals e i hi) (λ i _. candidate_D_d m k a i))
    ]
  ]

  pub holds_fit : (u : ℕ) → Holds m k (candidate m k a u) → Fit m k h d u
  holds_fit u v = record {
    datum = λ l i hi. diagonals i hi ∙ ⊕_eq _ _ (sym (candidate_D m k a big few u l i hi) ∙ hold_d m k (candidate m k a u) v i hi) ∙ sym (two u i);
    rows = λ e i hi. diagonals i hi ∙ sym (candidate_H_d m k a i) ∙ ap (λ (x : ℕ). amount_d m k (candidate m k a x) i) (sym e) ∙ hold_d m k (candidate m k a u) v i hi;
    diagonals = λ e i hi. row i hi ∙ sym (candidate_D_h m k a i) ∙ ap (λ (x : ℕ). amount_h m k (candidate m k a x) i) (sym e) ∙ hold_h m k (candidate m k a u) v i hi;
  }

module _ (m k b : ℕ) (few : k ≤ m) (odd : m % 2 ≡ 1) (prime : Prime m) (s : List ℕ) (l : ℕ) (hl : l < b) (breaks : Holds m k (lane m b s l) → ⊥)
    (h d : ℕ → ℕ) (rows : (i : ℕ) → i < m → h i ≡ row_amount m k (lane m b s l) i) (diagonals : (i : ℕ) → i < m - 1 → d i ≡ amount_d m k (lane m b s l) i) where
  pub judged : (r : Option ℕ) → Blames m k h d r → Suspects m k b s r
  judged (Some u) (inside, f) = (
    λ sound. breaks (sound l hl),
    inside,
    λ x hx fits. one_suspect m k (record { odd = odd; big = prime.big; small = few }) (prime_served m k prime few) (lane m b s l) breaks x u hx inside (fits l hl)
        (fit_holds m k prime.big few (lane m b s l) h d rows diagonals u inside f),
  )
  judged None none = (
    λ sound. breaks (sound l hl),
    λ x hx fits. none x hx (holds_fit m k prime.big few (lane m b s l) h d rows diagonals x (fits l hl)),
  )
