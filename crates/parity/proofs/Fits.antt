-- With one column u left out, the others fit a valid stripe exactly when the candidate for u obeys the equations in every lane.
--   rewritten m k b u s    s with column u rewritten to the candidate
--   fits_valid             if the others fit, that stripe is valid, and differs in no column but u
--   valid_fits             if a valid stripe differs in no column but u, the others fit
use mathlib.Core.Path.{◌≡◌, sym, ◌∙◌}
use mathlib.Core.Logic.{◌≢◌}
use mathlib.Core.Bool.{Bool, true, false, cond}
use mathlib.Core.List.{List}
use Prim.Native.Nat.{ℕ, suc, ◌+◌, ◌-◌, ◌≤◌, ◌<◌}
use native.Mathlib.Decide.{dec_lt}
use native.Mathlib.Omega.{arith}
use lib.Dec.{ltb, eqb, leb}
use Rattle.parity.specs.Equations.{Lane, cell, back, H, S, D, amount_h, amount_d}
use Rattle.parity.specs.Stripe.{byte, lane, Stripe, Valid}
use Rattle.parity.specs.Candidate.{candidate, FitsBut}
use Rattle.parity.proofs.Xor.{⊕_lt}
use Rattle.parity.proofs.Sum.{sum_lt}
use Rattle.parity.proofs.Cells.{holds_same}
use Rattle.parity.proofs.Bytes.{build, build_byte, build_stripe}
use Rattle.parity.proofs.Stripes.{byte_lt}
use Rattle.parity.proofs.Candidate.{candidate_other, candidate_holds}

pub rewritten : ℕ → ℕ → ℕ → ℕ → List ℕ → List ℕ
rewritten m k b u s = build m k b (λ l. candidate m k (lane m b s l) u)

-- ---- sums of bytes are bytes

cond_lt : (c : Bool) (x y : ℕ) → x < 256 → y < 256 → cond c x y < 256
cond_lt true x y p q = p
cond_lt false x y p q = q

module _ (m k : ℕ) (a : Lane) (small : (i t : ℕ) → a i t < 256) where
  cell_lt : (i t : ℕ) → cell m k a i t < 256
  unfolding cell
  cell_lt i t = cond_lt (ltb i (m - 1)) _ 0 (cond_lt (ltb t k) _ 0 (small i t) (omega arith)) (omega arith)

  amount_h_lt : (i : ℕ) → amount_h m k a i < 256
  unfolding amount_h H
  amount_h_lt i = ⊕_lt _ _ (small i k) (sum_lt m _ (λ t h. cell_lt i t))

  amount_d_lt : (i : ℕ) → amount_d m k a i < 256
  unfolding amount_d D S
  amount_d_lt i = ⊕_lt _ _ (small i (k + 1)) (⊕_lt _ _ (sum_lt (m - 1) _ (λ t h. cell_lt (m - 1 - suc t) (suc t))) (sum_lt m _ (λ t h. cell_lt (back m i t) t)))

  candidate_lt : (u i t : ℕ) → candidate m k a u i t < 256
  unfolding candidate
  candidate_lt u i t = cond_lt (eqb t u) _ _ (⊕_lt _ _ (small i t) (cond_lt (leb u k) _ _ (amount_h_lt i) (amount_d_lt i))) (small i t)

module _ (m k b u : ℕ) (s : List ℕ) where
  pub rewritten_byte : (l i t : ℕ) → l < b → i < m - 1 → t < k + 2 → byte m b (rewritten m k b u s) l i t ≡ candidate m k (lane m b s l) u i t
  unfolding rewritten
  rewritten_byte = build_byte m k b (λ l. candidate m k (lane m b s l) u)

  pub rewritten_other : (l i t : ℕ) → l < b → i < m - 1 → t < k + 2 → t ≢ u → byte m b s l i t ≡ byte m b (rewritten m k b u s) l i t
  rewritten_other l i t hl hi ht ne = sym (rewritten_byte l i t hl hi ht ∙ candidate_other m k (lane m b s l) u i t ne)

  pub fits_valid : Stripe m k b s → FitsBut m k b u s → Valid m k b (rewritten m k b u s)
  unfolding rewritten
  fits_valid st fits = record {
    stripe = build_stripe m k b (λ l. candidate m k (lane m b s l) u) (λ l. candidate_lt m k (lane m b s l) (byte_lt m k b s st l) u);
    lanes = λ l hl. holds_same m k (candidate m k (lane m b s l) u) (lane m b (rewritten m k b u s) l) (λ i t hi ht. sym (rewritten_byte l i t hl hi ht)) (fits l hl);
  }

  module _ (few : k ≤ m) (v : List ℕ) (vv : Valid m k b v)
      (same : (l i t : ℕ) → l < b → i < m - 1 → t < k + 2 → t ≢ u → byte m b s l i t ≡ byte m b v l i t) where
    pub valid_fits : FitsBut m k b u s
    valid_fits l hl = elim (dec_lt u (k + 2)) [
      | yes inside ↦ candidate_holds m k u (lane m b s l) (lane m b v l) (vv.lanes l hl) (λ i t hi ht ne. same l i t hl hi ht ne) few inside
      | no outside ↦ holds_same m k (lane m b v l) (candidate m k (lane m b s l) u)
          (λ i t hi ht. let ne : t ≢ u = λ e. omega arith in sym (candidate_other m k (lane m b s l) u i t ne ∙ same l i t hl hi ht ne)) (vv.lanes l hl)
    ]
