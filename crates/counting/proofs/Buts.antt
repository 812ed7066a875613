-- Laws of the lines that leave a column out.
--   window_row, window_data, window_diagonal   a piece, for D or no column, a data column and H left out
--   but_join                   a piece after the first columns
--   whole_end                  a line with its end, where neither is left out
--   but_H, but_row, but_data   what `line_but` is for column H, for D or no column, and for a data column
--   but_last                   row m - 1 is zero
--   rest, rest_H, rest_D, rest_data   what line i differs by from line m - 1: what diagonal i, row i and the candidate's diagonal i break by
use mathlib.Core.Path.{◌≡◌, sym, ap, ap₂, ◌∙◌}
use mathlib.Core.Logic.{◌≢◌}
use Prim.Native.Nat.{ℕ, ◌+◌, ◌-◌, ◌≤◌, ◌<◌}
use native.Mathlib.Nat.{le_refl, one-mul}
use native.Mathlib.Omega.{arith}
use borrow.Author.Tests.{lt-ltb, le-ltb}
use Rattle.parity.specs.Xor.{◌⊕◌}
use Rattle.parity.specs.Equations.{Lane, back, amount_h, amount_d}
use Rattle.parity.specs.Candidate.{candidate}
use Rattle.parity.proofs.Xor.{⊕_zero, ⊕_comm, xor}
use Rattle.parity.proofs.Candidate.{row_amount, row_amount_lem, row_amount_last, candidate_D}
use Rattle.cells.proofs.Parts.{by_order}
use Rattle.lines.specs.Lines.{real, line, span}
use Rattle.lines.specs.Places.{without, window}
use Rattle.lines.proofs.Lines.{back_lt, real_out, span_line}
use Rattle.lines.proofs.Equations.{row_at}
use Rattle.lines.proofs.Valid.{line_more, line_without}
use Rattle.lines.proofs.Amounts.{row_amount_line, diagonal_lines}
use Rattle.lines.proofs.Places.{window_start, window_join, without_real, without_span, without_one}
use Rattle.counting.specs.But.{window_but, line_but}

module _ (m k : ℕ) (a : Lane) (u d : ℕ) where
  pub window_row : (x y : ℕ) → k < u → window m k (without u u a) 0 d x y ≡ window_but m k a u d x y
  unfolding window_but
  window_row x y h = sym (rw (lt-ltb k u h))

  pub window_data : (x y : ℕ) → u < k → window m k (without u u a) 1 d x y ⊕ window m k (without u u a) 0 (back m d u) x y ≡ window_but m k a u d x y
  unfolding window_but
  window_data x y h = sym (rw (le-ltb k u (omega arith), lt-ltb u k h))

  pub window_diagonal : (x y : ℕ) → u ≤ k → k ≤ u → window m k (without u u a) 1 d x y ≡ window_but m k a u d x y
  unfolding window_but
  window_diagonal x y h l = sym (rw (le-ltb k u h, le-ltb u k l) (⊕_zero (window m k (without u u a) 1 d x y)))

  pub but_join : (x y : ℕ) → x ≢ 0 → window_but m k a u d 0 x ⊕ window_but m k a u d x y ≡ window_but m k a u d 0 y
  but_join x y ne = by_order (window_but m k a u d 0 x ⊕ window_but m k a u d x y ≡ window_but m k a u d 0 y) k u
      (λ h. ap₂ ◌⊕◌ (sym (window_row 0 x h)) (sym (window_row x y h)) ∙ window_join m k b 0 d x y ne ∙ window_row 0 y h)
      (λ low. by_order (window_but m k a u d 0 x ⊕ window_but m k a u d x y ≡ window_but m k a u d 0 y) u k
      (λ h.
      ap₂ ◌⊕◌ (sym (window_data 0 x h)) (sym (window_data x y h))
      ∙ swap (window m k b 1 d 0 x) (window m k b 0 (back m d u) 0 x) (window m k b 1 d x y) (window m k b 0 (back m d u) x y)
      ∙ ap₂ ◌⊕◌ (window_join m k b 1 d x y ne) (window_join m k b 0 (back m d u) x y ne) ∙ window_data 0 y h)
      (λ h. ap₂ ◌⊕◌ (sym (window_diagonal 0 x low h)) (sym (window_diagonal x y low h)) ∙ window_join m k b 1 d x y ne ∙ window_diagonal 0 y low h))
    where
      b : Lane
      b = without u u a

      swap : (p q r s : ℕ) → p ⊕ q ⊕ (r ⊕ s) ≡ p ⊕ r ⊕ (q ⊕ s)
      swap p q r s = simp xor

module _ (m k : ℕ) (big : 1 < m) (few : k ≤ m) (a : Lane) where
  -- a line with its end, neither of which is left out
  whole_end : (u e d : ℕ) → k ≤ u → k + e ≢ u → window m k (without u u a) e d 0 k ≡ line m a e d k ⊕ real m a d (k + e)
  whole_end u e d h ne =
      window_start m k (without u u a) e d k
      ∙ ap₂ ◌⊕◌ (without_real m u u a d (k + e) ne ne) (without_span m u u a e d 0 k (omega arith) (λ t l b. (λ q. absurd (omega arith), λ q. absurd (omega arith))) ∙ span_line m a e d k)
      ∙ ⊕_comm (real m a d (k + e)) (line m a e d k)

  -- without a data column u
  but_end : (u e d : ℕ) → u < k → window m k (without u u a) e d 0 k ≡ real m a d (k + e) ⊕ span m (without u u a) e d 0 k
  but_end u e d h =
      window_start m k (without u u a) e d k
      ∙ ap (λ (x : ℕ). x ⊕ span m (without u u a) e d 0 k) (without_real m u u a d (k + e) (λ q. absurd (omega arith)) (λ q. absurd (omega arith)))

  -- the amount of a row
  row_end : (d : ℕ) → d < m → line m a 0 d k ⊕ real m a d k ≡ row_amount m k a d
  row_end d l = sym (row_amount_line m k few a d l ∙ line_more m a 0 d k ∙ ap (λ (r : ℕ). line m a 0 d k ⊕ real m a r k) (row_at m d k l))

  but_H : (d : ℕ) → line_but m k a k d ≡ line m a 1 d k ⊕ real m a d (k + 1)
  but_H d = sym (window_diagonal m k a k d 0 k (le_refl k) (le_refl k)) ∙ whole_end k 1 d (le_refl k) (λ q. absurd (omega arith))

  pub but_row : (u d : ℕ) → k < u → d < m → line_but m k a u d ≡ row_amount m k a d
  but_row u d h l =
      let e : k + 0 ≡ k = omega arith in
      sym (window_row m k a u d 0 k h) ∙ whole_end u 0 d (omega arith) (λ q. absurd (omega arith)) ∙ ap (λ (t : ℕ). line m a 0 d k ⊕ real m a d t) e ∙ row_end d l

  pub but_last : (u : ℕ) → k < u → line_but m k a u (m - 1) ≡ 0
  but_last u h = but_row u (m - 1) h (omega arith) ∙ row_amount_last m k a (m - 1) (le_refl (m - 1))

  but_data : (u d : ℕ) → u < k → d < m → line_but m k a u d ≡ line m a 1 d k ⊕ row_amount m k a (back m d u) ⊕ real m a d (k + 1)
  but_data u d h l =
      sym (window_data m k a u d 0 k h) ∙ ap₂ ◌⊕◌
      (but_end u 1 d h ∙ ap (λ (x : ℕ). real m a d (k + 1) ⊕ x) (without_one m u a 1 d k h ∙ line_without m a 1 d u k ∙ ap (λ (x : ℕ). line m a 1 d k ⊕ real m a (back m d x) u) (one-mul u)))
      (but_end u 0 r h ∙ ap₂ ◌⊕◌ (let e : k + 0 ≡ k = omega arith in ap (real m a r) e) (without_one m u a 0 r k h ∙ line_without m a 0 r u k ∙ ap (λ (x : ℕ). line m a 0 r k ⊕ real m a x u) (row_at m r u there)))
      ∙ tidy (real m a d (k + 1)) (real m a r k) (line m a 1 d k) (real m a r u) (line m a 0 r k)
      ∙ ap (λ (x : ℕ). line m a 1 d k ⊕ x ⊕ real m a d (k + 1)) (row_end r there)
    where
      r : ℕ
      r = back m d u

      there : r < m
      there = back_lt m d u (omega arith)

      tidy : (p q x y z : ℕ) → p ⊕ (x ⊕ y) ⊕ (q ⊕ (z ⊕ y)) ≡ x ⊕ (z ⊕ q) ⊕ p
      tidy p q x y z = simp xor

  abbrev pub rest : ℕ → ℕ → ℕ
  rest u i = line_but m k a u (m - 1) ⊕ line_but m k a u i

  pub rest_H : (i : ℕ) → i < m - 1 → rest k i ≡ amount_d m k a i
  rest_H i l =
      ap₂ ◌⊕◌ (but_H (m - 1) ∙ ap (λ (x : ℕ). line m a 1 (m - 1) k ⊕ x) (real_out m a (m - 1) (k + 1) (le_refl (m - 1)))) (but_H i)
      ∙ tidy (line m a 1 (m - 1) k) (line m a 1 i k ⊕ real m a i (k + 1)) ∙ sym (diagonal_lines m k few a big i l)
    where
      tidy : (s x : ℕ) → s ⊕ 0 ⊕ x ≡ s ⊕ x
      tidy s x = simp xor

  pub rest_D : (i : ℕ) → i < m - 1 → rest (k + 1) i ≡ amount_h m k a i
  rest_D i l =
      let h : k < k + 1 = omega arith in
      ap₂ ◌⊕◌ (but_last (k + 1) h) (but_row (k + 1) i h (omega arith) ∙ row_amount_lem m k a i l) ∙ simp xor

  pub rest_data : (u i : ℕ) → u < k → i < m - 1 → rest u i ≡ amount_d m k (candidate m k a u) i
  rest_data u i h l =
      ap₂ ◌⊕◌ (but_data u (m - 1) h (omega arith) ∙ ap (λ (x : ℕ). line m a 1 (m - 1) k ⊕ row_amount m k a (back m (m - 1) u) ⊕ x) (real_out m a (m - 1) (k + 1) (le_refl (m - 1)))) (but_data u i h (omega arith))
      ∙ tidy (line m a 1 (m - 1) k) (row_amount m k a (back m (m - 1) u)) (line m a 1 i k) (row_amount m k a (back m i u)) (real m a i (k + 1))
      ∙ sym (candidate_D m k a big few u h i l ∙ ap (λ (x : ℕ). x ⊕ (row_amount m k a (back m i u) ⊕ row_amount m k a (back m (m - 1) u))) (diagonal_lines m k few a big i l))
    where
      tidy : (s p x q d : ℕ) → s ⊕ p ⊕ 0 ⊕ (x ⊕ q ⊕ d) ≡ s ⊕ (x ⊕ d) ⊕ (q ⊕ p)
      tidy s p x q d = simp xor
