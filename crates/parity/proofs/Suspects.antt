-- Which column of a lane a can be the wrong one: a column whose candidate obeys the equations.
--   hold_h, hold_d, amounts_hold   the equations hold exactly when all amounts are zero
--   candidate_H_h, candidate_H_d   the amounts of the candidate for column H: the diagonals break as they did, the rows no more
--   candidate_D_h, candidate_D_d   those of the candidate for column D: the rows break as they did, the diagonals no more
--   one_suspect                    in a lane that breaks at most one column's candidate obeys the equations
use mathlib.Core.Path.{◌≡◌, sym, ap, ap₂, ◌∙◌}
use Prim.Native.Nat.{ℕ, ◌+◌, ◌-◌, ◌≤◌, ◌<◌}
use native.Mathlib.Nat.{le_refl}
use native.Mathlib.Decide.{ℕ_discrete, dec_lt}
use native.Mathlib.Omega.{arith}
use Rattle.parity.specs.Xor.{◌⊕◌}
use Rattle.parity.specs.Equations.{Lane, H, D, amount_h, amount_d, Holds}
use Rattle.parity.specs.Candidate.{candidate}
use Rattle.parity.proofs.Xor.{⊕_self, ⊕_eq, xor}
use Rattle.parity.proofs.Cells.{H_same, D_same, holds_same}
use Rattle.parity.proofs.Columns.{other_way}
use Rattle.parity.proofs.Balance.{Frame, Served, at_most_one}
use Rattle.parity.proofs.Candidate.{candidate_h, candidate_d, candidate_other}

module _ (m k : ℕ) (a : Lane) where
  pub hold_h : Holds m k a → (i : ℕ) → i < m - 1 → amount_h m k a i ≡ 0
  unfolding amount_h
  hold_h v i l = ap (λ x. x ⊕ H m k a i) (v.h i l) ∙ ⊕_self (H m k a i)

  pub hold_d : Holds m k a → (i : ℕ) → i < m - 1 → amount_d m k a i ≡ 0
  unfolding amount_d
  hold_d v i l = ap (λ x. x ⊕ D m k a i) (v.d i l) ∙ ⊕_self (D m k a i)

  pub amounts_hold : ((i : ℕ) → i < m - 1 → amount_h m k a i ≡ 0) → ((i : ℕ) → i < m - 1 → amount_d m k a i ≡ 0) → Holds m k a
  unfolding amount_h amount_d
  amounts_hold h d = record { h = λ i l. ⊕_eq (a i k) (H m k a i) (h i l); d = λ i l. ⊕_eq (a i (k + 1)) (D m k a i) (d i l) }

  -- the data columns of the candidate for column H or D are a's
  data_same : (u i t : ℕ) → k ≤ u → t < k → candidate m k a u i t ≡ a i t
  data_same u i t h l = candidate_other m k a u i t (λ e. absurd (omega arith))

  pub candidate_H_h : (i : ℕ) → amount_h m k (candidate m k a k) i ≡ 0
  unfolding amount_h
  candidate_H_h i =
      ap₂ ◌⊕◌ (candidate_h m k a k i (le_refl k)) (H_same m k (candidate m k a k) a (λ i t _ l. data_same k i t (le_refl k) l) i) ∙ simp xor

  pub candidate_H_d : (i : ℕ) → amount_d m k (candidate m k a k) i ≡ amount_d m k a i
  unfolding amount_d
  candidate_H_d i =
      ap₂ ◌⊕◌ (candidate_other m k a k i (k + 1) (λ e. absurd (omega arith))) (D_same m k (candidate m k a k) a (λ i t _ l. data_same k i t (le_refl k) l) i)

  pub candidate_D_h : (i : ℕ) → amount_h m k (candidate m k a (k + 1)) i ≡ amount_h m k a i
  unfolding amount_h
  candidate_D_h i =
      ap₂ ◌⊕◌ (candidate_other m k a (k + 1) i k (λ e. absurd (omega arith))) (H_same m k (candidate m k a (k + 1)) a (λ i t _ l. data_same (k + 1) i t (omega arith) l) i)

  pub candidate_D_d : (i : ℕ) → amount_d m k (candidate m k a (k + 1)) i ≡ 0
  unfolding amount_d
  candidate_D_d i =
      ap₂ ◌⊕◌ (candidate_d m k a i) (D_same m k (candidate m k a (k + 1)) a (λ i t _ l. data_same (k + 1) i t (omega arith) l) i) ∙ simp xor

module _ (m k : ℕ) (w : Frame m k) (told : (u v : ℕ) → u < v → v < k + 2 → Served m k u v) (a : Lane) (breaks : Holds m k a → ⊥) where
  -- the candidates for columns x < y are a but in those columns, so they are one if they obey the equations, and a is it too
  not_both : (x y : ℕ) → x < y → y < k + 2 → Holds m k (candidate m k a x) → Holds m k (candidate m k a y) → ⊥
  not_both x y less top p q = breaks (holds_same m k (candidate m k a x) a (λ i t hi ht. pick i t hi ht (ℕ_discrete t x)) p)
    where
      one : (i t : ℕ) → i < m - 1 → t < k + 2 → candidate m k a x i t ≡ candidate m k a y i t
      one = at_most_one m k w x y (told x y less top) (candidate m k a x) (candidate m k a y) p q
          (record { at = λ i t hi ht nx ny. candidate_other m k a x i t nx ∙ sym (candidate_other m k a y i t ny) })

      pick : (i t : ℕ) → i < m - 1 → t < k + 2 → Dec (t ≡ x) → candidate m k a x i t ≡ a i t
      pick i t hi ht (yes e) = one i t hi ht ∙ candidate_other m k a y i t (λ c. absurd (omega arith))
      pick i t hi ht (no ne) = candidate_other m k a x i t ne

  pub one_suspect : (x y : ℕ) → x < k + 2 → y < k + 2 → Holds m k (candidate m k a x) → Holds m k (candidate m k a y) → x ≡ y
  one_suspect x y hx hy p q = elim (ℕ_discrete x y) [
    | yes e ↦ e
    | no ne ↦ elim (dec_lt x y) [
      | yes l ↦ absurd (not_both x y l hy p q)
      | no l ↦ absurd (not_both y x (other_way x y ne l) hx q p)
    ]
  ]
