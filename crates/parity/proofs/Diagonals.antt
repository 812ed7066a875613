-- The diagonals have the same cells as the rows. So in a lane whose equations hold, with m odd, S is the sum of all cells of columns H and D.
--   last_out             a sum over m numbers, its last taken out
--   diagonals_rows       all diagonals together are all rows together
--   S_total              S, from columns H and D alone
use mathlib.Core.Path.{◌≡◌, sym, ap, ap₂, ◌∙◌}
use Prim.Native.Nat.{ℕ, suc, ◌+◌, ◌-◌, ◌*◌, ◌%◌, ◌<◌}
use native.Mathlib.Nat.{mod_self, mod-eq_of_lt, mul-one, le_refl}
use native.Mathlib.Omega.{arith}
use Rattle.parity.specs.Xor.{◌⊕◌}
use Rattle.parity.specs.Sum.{sum}
use Rattle.parity.specs.Equations.{Lane, cell, back, H, S, D, Holds}
use Rattle.parity.proofs.Xor.{by_sum, xor}
use Rattle.parity.proofs.Sum.{sum_cong, sum_none, sum_add, sum_swap, sum_order, sum_odd}
use Rattle.parity.proofs.Modular.{affine}
use Rattle.parity.proofs.Cells.{diagonal, cell_below, S_diagonal}

last_out : (m : ℕ) (f : ℕ → ℕ) → 1 < m → sum m f ≡ sum (m - 1) f ⊕ f (m - 1)
unfolding sum
last_out m f big = let whole : m ≡ suc (m - 1) = omega arith in ap (λ n. sum n f) whole

module _ (m k : ℕ) (big : 1 < m) (a : Lane) where
  -- the rows of a column, from another row on
  turned : (t : ℕ) → t < m → (f : ℕ → ℕ) → sum m (λ i. f (back m i t)) ≡ sum m f
  unfolding back
  turned t l f =
      sum_cong m (λ i c. ap (λ x. f ((x + (m - t)) % m)) (sym (mul-one i)))
      ∙ sum_order m (λ i. (i * 1 + (m - t)) % m) (λ i. (i + t) * 1 % m) f (affine m 1 1 (m - t) t big (mod-eq_of_lt big) round)
    where
      round : (m - t + t) % m ≡ 0
      round = let e : m - t + t ≡ m = omega arith in rw e (mod_self m)

  diagonals_rows : sum m (diagonal m k a) ≡ sum m (H m k a)
  unfolding diagonal H
  diagonals_rows =
      sum_swap m m (λ i t. cell m k a (back m i t) t)
      ∙ sum_cong m (λ t l. turned t l (λ i. cell m k a i t))
      ∙ sum_swap m m (λ t i. cell m k a i t)

  H_last : H m k a (m - 1) ≡ 0
  unfolding H
  H_last = sum_none m (λ t l. cell_below m k a (m - 1) t (le_refl (m - 1)))

  pub S_total : m % 2 ≡ 1 → Holds m k a → S m k a ≡ sum (m - 1) (λ i. a i k) ⊕ sum (m - 1) (λ i. a i (k + 1))
  unfolding D diagonal
  S_total odd v =
      by_sum
      (sym (last_out m (H m k a) big ∙ ap₂ ◌⊕◌ (sum_cong (m - 1) (λ i l. sym (v.h i l))) H_last)
      ∙ sym diagonals_rows
      ∙ last_out m (diagonal m k a) big
      ∙ ap₂ ◌⊕◌ (sum_cong (m - 1) along ∙ sum_add (m - 1) (λ i. S m k a) (λ i. a i (k + 1))) (sym (S_diagonal m k a big))
      ∙ regroup (sum (m - 1) (λ i. S m k a)) (sum (m - 1) (λ i. a i (k + 1))) (S m k a)
      ∙ ap (λ x. x ⊕ sum (m - 1) (λ i. a i (k + 1))) (sym (last_out m (λ i. S m k a) big) ∙ sum_odd m (S m k a) odd))
      (simp xor)
    where
      along : (i : ℕ) → i < m - 1 → diagonal m k a i ≡ S m k a ⊕ a i (k + 1)
      along i l = by_sum (v.d i l) (simp xor)

      regroup : (x y z : ℕ) → x ⊕ y ⊕ z ≡ x ⊕ z ⊕ y
      regroup x y z = simp xor
