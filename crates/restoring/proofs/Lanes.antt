-- One lane: a is a lane whose equations hold, and s has what a has in the columns that are present, all but u and v. What is left of the rows
-- and the diagonals of s is what a has in the absent columns.
--   back_across, back_here    the row of a diagonal in a column
--   row_of_one, row_of_both   what is left of a row where only column u crosses it, and where both do
--   diagonal_of_both          what is left of a diagonal where both are data columns
--   diagonal_of_one           where u is a data column, and v is H
--   diagonal_and_d            where u is a data column, and v is D
--   d_first, d_second         where D is absent, and no data column
--   total_S                   S, from H and D
use mathlib.Core.Path.{◌≡◌, sym, ap, ap₂, ◌∙◌}
use mathlib.Core.Logic.{◌≢◌}
use Prim.Native.Nat.{ℕ, ◌+◌, ◌*◌, ◌-◌, ◌%◌, ◌≤◌, ◌<◌}
use native.Mathlib.Nat.{one-mul, mod-lt, mod-eq_of_lt, mod-add-mod, add-mod_right}
use native.Mathlib.Omega.{arith}
use Rattle.parity.specs.Xor.{◌⊕◌}
use Rattle.parity.specs.Sum.{sum}
use Rattle.parity.specs.Equations.{Lane, back, S, Holds}
use Rattle.parity.proofs.Xor.{⊕_zero, zero_⊕}
use Rattle.parity.proofs.Sum.{sum_cong, sum_add}
use Rattle.parity.proofs.Diagonals.{S_total}
use Rattle.lines.specs.Lines.{real, span, ended}
use Rattle.lines.specs.Places.{without}
use Rattle.lines.proofs.Lines.{real_in, span_agree}
use Rattle.lines.proofs.Amounts.{cells_span}
use Rattle.lines.proofs.Ended.{crossing, row_crossing, row_clear, diagonal_crossing, diagonal_end, diagonal_clear, rows_left, diagonals_left}

-- ---- lines of any lane

-- the diagonal of row r of column v, where it crosses column u
back_across : (m r u v : ℕ) → u ≤ v → u ≤ m → back m ((r + v) % m) (1 * u) ≡ (r + (v - u)) % m
unfolding back
back_across m r u v order low =
    let e : r + v + (m - u) ≡ r + (v - u) + m = omega arith in
    ap (λ (x : ℕ). ((r + v) % m + (m - x)) % m) (one-mul u) ∙ mod-add-mod (r + v) m (m - u) ∙ ap (λ (x : ℕ). x % m) e ∙ add-mod_right (r + (v - u)) m

back_here : (m r u : ℕ) → r < m → u ≤ m → back m ((r + u) % m) (1 * u) ≡ r
back_here m r u h low =
    let e : r + (u - u) ≡ r = omega arith in
    back_across m r u u (omega arith) low ∙ ap (λ (x : ℕ). x % m) e ∙ mod-eq_of_lt h

-- ---- where the equations of a hold

module _ (m k : ℕ) (big : 1 < m) (few : k ≤ m) (s a : Lane) (holds : Holds m k a) (u v : ℕ) (apart : u ≢ v)
    (same : (r t : ℕ) → r < m - 1 → t < k + 2 → t ≢ u → t ≢ v → s r t ≡ a r t) where
  abbrev R : ℕ → ℕ
  R i = ended m (without u v s) 0 i k k

  abbrev E : ℕ → ℕ
  E i = ended m (without u v s) 1 i (k + 1) k

  rows : (i x y : ℕ) → i < m → crossing m a 0 i k k u ≡ x → crossing m a 0 i k k v ≡ y → R i ≡ x ⊕ y
  rows i x y h p q = rows_left m k big few a holds s u v apart same i h ∙ ap₂ ◌⊕◌ p q

  diagonals : (i x y : ℕ) → i < m → crossing m a 1 i (k + 1) k u ≡ x → crossing m a 1 i (k + 1) k v ≡ y → E i ≡ S m k a ⊕ (x ⊕ y)
  diagonals i x y h p q = diagonals_left m k big few a holds s u v apart same i h ∙ ap (λ (z : ℕ). S m k a ⊕ z) (ap₂ ◌⊕◌ p q)

  pub row_of_one : u ≤ k → k < v → (i : ℕ) → i < m - 1 → R i ≡ a i u
  row_of_one low past i h =
      rows i (a i u) 0 (omega arith) (row_crossing m k a i u (omega arith) low ∙ real_in m a i u h) (row_clear m k a i v past) ∙ ⊕_zero (a i u)

  pub row_of_both : u ≤ k → v ≤ k → (i : ℕ) → i < m - 1 → R i ≡ a i u ⊕ a i v
  row_of_both low lower i h =
      rows i (a i u) (a i v) (omega arith) (row_crossing m k a i u (omega arith) low ∙ real_in m a i u h) (row_crossing m k a i v (omega arith) lower ∙ real_in m a i v h)

  pub diagonal_of_both : u < v → v < k → (i : ℕ) → i < m - 1 → E ((i + v) % m) ≡ S m k a ⊕ (real m a ((i + (v - u)) % m) u ⊕ real m a i v)
  diagonal_of_both order top i h =
      diagonals ((i + v) % m) (real m a ((i + (v - u)) % m) u) (real m a i v) (mod-lt (i + v) (omega arith))
      (diagonal_crossing m k a ((i + v) % m) u (omega arith) ∙ ap (λ (r : ℕ). real m a r u) (back_across m i u v (omega arith) (omega arith)))
      (diagonal_crossing m k a ((i + v) % m) v top ∙ ap (λ (r : ℕ). real m a r v) (back_here m i v (omega arith) (omega arith)))

  pub diagonal_of_one : u < k → v ≡ k → (r : ℕ) → r < m → E ((r + u) % m) ≡ S m k a ⊕ real m a r u
  diagonal_of_one low is r h =
      diagonals ((r + u) % m) (real m a r u) 0 (mod-lt (r + u) (omega arith))
      (diagonal_crossing m k a ((r + u) % m) u low ∙ ap (λ (x : ℕ). real m a x u) (back_here m r u h (omega arith)))
      (diagonal_clear m k a ((r + u) % m) v (omega arith) (λ q. absurd (omega arith)))
      ∙ ap (λ (x : ℕ). S m k a ⊕ x) (⊕_zero (real m a r u))

  pub diagonal_and_d : u < k → v ≡ k + 1 → (i : ℕ) → i < m → E i ≡ S m k a ⊕ (real m a (back m i u) u ⊕ real m a i (k + 1))
  diagonal_and_d low is i h =
      diagonals i (real m a (back m i u) u) (real m a i (k + 1)) h
      (diagonal_crossing m k a i u low ∙ ap (λ (x : ℕ). real m a (back m i x) u) (one-mul u))
      (ap (crossing m a 1 i (k + 1) k) is ∙ diagonal_end m k a i)

  pub d_first : u ≡ k + 1 → k + 1 < v → (i : ℕ) → i < m → E i ≡ S m k a ⊕ real m a i (k + 1)
  d_first is past i h =
      diagonals i (real m a i (k + 1)) 0 h
      (ap (crossing m a 1 i (k + 1) k) is ∙ diagonal_end m k a i)
      (diagonal_clear m k a i v (omega arith) (λ q. absurd (omega arith)))
      ∙ ap (λ (x : ℕ). S m k a ⊕ x) (⊕_zero (real m a i (k + 1)))

  pub d_second : u ≡ k → v ≡ k + 1 → (i : ℕ) → i < m → E i ≡ S m k a ⊕ real m a i (k + 1)
  d_second was is i h =
      diagonals i 0 (real m a i (k + 1)) h
      (diagonal_clear m k a i u (omega arith) (λ q. absurd (omega arith)))
      (ap (crossing m a 1 i (k + 1) k) is ∙ diagonal_end m k a i)
      ∙ ap (λ (x : ℕ). S m k a ⊕ x) (zero_⊕ (real m a i (k + 1)))

  pub total_S : u < k → v < k → m % 2 ≡ 1 → sum (m - 1) (λ i. span m s 0 i k (k + 2)) ≡ S m k a
  total_S low lower odd =
      sum_cong (m - 1) (λ i h.
      span_agree m s a 0 i k (k + 2) (omega arith) (λ r t hr hx hy. same r t hr hy (λ e. absurd (omega arith)) (λ e. absurd (omega arith)))
      ∙ cells_span m a i k (omega arith)
      ∙ ap₂ ◌⊕◌ (real_in m a i k h) (real_in m a i (k + 1) h))
      ∙ sum_add (m - 1) (λ i. a i k) (λ i. a i (k + 1))
      ∙ sym (S_total m k big a odd holds)
