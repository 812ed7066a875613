-- Lines of a lane whose equations hold, and lines with a column left out.
--   line_more         a line over one column more
--   line_without      a line without column u: what is left of it is the line plus its cell in column u
--   row_is            a row over the data columns is H's cell
--   diagonal_is       a diagonal over the data columns is S plus D's cell; of diagonal m - 1 D's cell is imaginary
use mathlib.Core.Path.{◌≡◌, sym, ap, ◌∙◌}
use Prim.Native.Nat.{ℕ, ◌+◌, ◌*◌, ◌-◌, ◌≤◌, ◌<◌}
use native.Mathlib.Omega.{arith}
use Rattle.parity.specs.Xor.{◌⊕◌}
use Rattle.parity.specs.Equations.{Lane, back, S, Holds}
use Rattle.parity.proofs.Xor.{⊕_zero, by_sum, xor}
use Rattle.parity.proofs.Sum.{sum_none}
use Rattle.cells.proofs.Parts.{by_order}
use Rattle.lines.specs.Lines.{real, line, span}
use Rattle.lines.proofs.Lines.{real_in, real_out, span_line, span_more, line_but_lem}
use Rattle.lines.proofs.Equations.{H_line, S_line, D_line, row_at}

-- ---- a column more, and a column less

module _ (m : ℕ) (a : Lane) where
  pub line_more : (e i t : ℕ) → line m a e i (t + 1) ≡ line m a e i t ⊕ real m a (back m i (e * t)) t
  line_more e i t =
      sym (span_line m a e i (t + 1)) ∙ sym (span_more m a e i 0 t) ∙ ap (λ (x : ℕ). x ⊕ real m a (back m i (e * t)) t) (span_line m a e i t)

  pub line_without : (e i u n : ℕ) → span m a e i 0 u ⊕ span m a e i (u + 1) n ≡ line m a e i n ⊕ real m a (back m i (e * u)) u
  line_without e i u n =
      sym (ap (λ (x : ℕ). x ⊕ real m a (back m i (e * u)) u) (line_but_lem m a e i u n) ∙ sums (span m a e i 0 u) (real m a (back m i (e * u)) u) (span m a e i (u + 1) n))
    where
      sums : (x p z : ℕ) → x ⊕ p ⊕ z ⊕ p ≡ x ⊕ z
      sums x p z = simp xor

-- ---- where the equations hold

module _ (m k : ℕ) (big : 1 < m) (few : k ≤ m) (a : Lane) (holds : Holds m k a) where
  pub row_is : (i : ℕ) → i < m → line m a 0 i k ≡ real m a i k
  unfolding line
  row_is i h = by_order (line m a 0 i k ≡ real m a i k) i (m - 1)
      (λ low. sym (H_line m k few a i h) ∙ sym (holds.h i low) ∙ sym (real_in m a i k low))
      (λ high.
      sum_none k (λ t _. ap (λ (r : ℕ). real m a r t) (row_at m i t h) ∙ real_out m a i t high) ∙ sym (real_out m a i k high))

  pub diagonal_is : (d : ℕ) → d < m → line m a 1 d k ≡ S m k a ⊕ real m a d (k + 1)
  diagonal_is d h = by_order (line m a 1 d k ≡ S m k a ⊕ real m a d (k + 1)) d (m - 1)
      (λ low. by_sum (real_in m a d (k + 1) low ∙ holds.d d low ∙ D_line m k few a d) (sums (line m a 1 d k) (real m a d (k + 1)) (S m k a)))
      (λ high.
      let e : d ≡ m - 1 = omega arith in
      ap (λ (x : ℕ). line m a 1 x k) e ∙ sym (S_line m k few a big) ∙ sym (ap (λ (x : ℕ). S m k a ⊕ x) (real_out m a d (k + 1) high) ∙ ⊕_zero (S m k a)))
    where
      sums : (x y z : ℕ) → x ⊕ y ≡ z ⊕ y ⊕ (z ⊕ x)
      sums x y z = simp xor
