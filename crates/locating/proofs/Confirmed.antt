-- A stripe of which no row breaks.
--   sound, only_D  where the columns other than H fit the stripe is valid, else the columns other than D fit, and it is not
use mathlib.Core.Path.{◌≡◌, sym, ◌∙◌}
use mathlib.Core.List.{List}
use Prim.Native.Nat.{ℕ, ◌+◌, ◌-◌, ◌<◌}
use native.Mathlib.Omega.{arith}
use Rattle.parity.specs.Equations.{Lane, amount_h}
use Rattle.parity.specs.Stripe.{lane}
use Rattle.parity.specs.Candidate.{candidate, FitsBut}
use Rattle.parity.proofs.Suspects.{hold_d, amounts_hold, candidate_H_h, candidate_H_d, candidate_D_h, candidate_D_d}
use Rattle.locating.specs.Locating.{Sound, Blamed}
use Rattle.locating.specs.declared.Suspect.TheVariants.{Column}

module _ (m k b : ℕ) (s : List ℕ) (rows : (l i : ℕ) → l < b → i < m - 1 → amount_h m k (lane m b s l) i ≡ 0) where
  pub sound : FitsBut m k b k s → Sound m k b s
  sound f l hl = amounts_hold m k a (λ i. rows l i hl) (λ i hi. sym (candidate_H_d m k a i) ∙ hold_d m k (candidate m k a k) (f l hl) i hi)
    where
      a : Lane
      a = lane m b s l

  pub only_D : (FitsBut m k b k s → ⊥) → Blamed m k b s (Column (k + 1))
  only_D not = (
    λ v. not (λ l hl. amounts_hold m k (candidate m k (lane m b s l) k) (λ i _. candidate_H_h m k (lane m b s l) i)
        (λ i hi. candidate_H_d m k (lane m b s l) i ∙ hold_d m k (lane m b s l) (v l hl) i hi)),
    omega arith,
    λ l hl. amounts_hold m k (candidate m k (lane m b s l) (k + 1)) (λ i hi. candidate_D_h m k (lane m b s l) i ∙ rows l i hl hi) (λ i _. candidate_D_d m k (lane m b s l) i),
  )
