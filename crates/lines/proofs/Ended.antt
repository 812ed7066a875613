-- Lines with their ends, and what is left of them when two columns are left out.
--   crossing m a e i h n t       what line i with its end has in column t: inside its cell among the first n columns, at_end its end
--   row_crossing, row_clear      what a row with H's cell has in a data column or H, and in another
--   diagonal_crossing            what a diagonal with D's cell has in a data column
--   diagonal_end, diagonal_clear    in D, and in another
--   ended_but                    a line without columns u and v is the line plus its cells there
--   ended_same                   a line without columns u and v depends on the bytes of the other columns alone
--   ended_row, ended_diagonal    where the equations hold a row with H's cell is zero, and a diagonal with D's is S
--   rows_left, diagonals_left    s has what a has but in columns u and v, and the equations of a hold: what is left of a row of s is what
--                                a has there in these columns, and of a diagonal that plus S
use mathlib.Core.Path.{◌≡◌, sym, ap, ap₂, ◌∙◌, subst}
use mathlib.Core.Bool.{cond}
use mathlib.Core.Logic.{◌≢◌}
use Prim.Native.Nat.{ℕ, zero, suc, ◌+◌, ◌*◌, ◌-◌, ◌≤◌, ◌<◌}
use native.Mathlib.Numerals.{add-one}
use native.Mathlib.Omega.{arith}
use lib.Dec.{ltb, eqb}
use borrow.Author.Tests.{lt-ltb, le-ltb, eq-eqb, ne_eqb}
use Rattle.parity.specs.Xor.{◌⊕◌}
use Rattle.parity.specs.Equations.{Lane, back, S, Holds}
use Rattle.parity.proofs.Xor.{⊕_assoc, ⊕_zero, zero_⊕, ⊕_self, xor}
use Rattle.cells.proofs.Parts.{by_order}
use Rattle.lines.specs.Lines.{real, span, ended}
use Rattle.lines.specs.Places.{without}
use Rattle.lines.proofs.Lines.{span_none, span_line, span_more, real_same, span_agree}
use Rattle.lines.proofs.Places.{without_other, first_without, second_without, without_real, without_first, without_second}
use Rattle.lines.proofs.Equations.{row_at}
use Rattle.lines.proofs.Valid.{row_is, diagonal_is}

by_same : (P : Type 0) (x y : ℕ) → (x ≡ y → P) → (x ≢ y → P) → P
by_same P x y f g = by_order P x y (λ h. g (λ q. absurd (omega arith))) (λ h. by_order P y x (λ k. g (λ q. absurd (omega arith))) (λ k. f (omega arith)))

module _ (m : ℕ) (a : Lane) (e i : ℕ) where
  unfoldable pub inside : ℕ → ℕ → ℕ
  inside n t = cond (ltb t n) (real m a (back m i (e * t)) t) 0

  unfoldable pub at_end : ℕ → ℕ → ℕ
  at_end h t = cond (eqb t h) (real m a i h) 0

  abbrev pub crossing : ℕ → ℕ → ℕ → ℕ
  crossing h n t = inside n t ⊕ at_end h t

  inside_in : (n t : ℕ) → t < n → inside n t ≡ real m a (back m i (e * t)) t
  unfolding inside
  inside_in n t h = rw (lt-ltb t n h)

  inside_out : (n t : ℕ) → n ≤ t → inside n t ≡ 0
  unfolding inside
  inside_out n t h = rw (le-ltb t n h)

  inside_more : (n t : ℕ) → t ≢ n → inside (n + 1) t ≡ inside n t
  inside_more n t ne = by_order (inside (n + 1) t ≡ inside n t) t n
      (λ h. inside_in (n + 1) t (omega arith) ∙ sym (inside_in n t h))
      (λ h. by_same (inside (n + 1) t ≡ inside n t) t n (λ q. absurd (ne q)) (λ q. by_order (inside (n + 1) t ≡ inside n t) n t
      (λ k. inside_out (n + 1) t (omega arith) ∙ sym (inside_out n t h))
      (λ k. absurd (ne (omega arith)))))

  end_in : (h t : ℕ) → t ≡ h → at_end h t ≡ real m a i h
  unfolding at_end
  end_in h t q = rw (eq-eqb t h q)

  end_out : (h t : ℕ) → t ≢ h → at_end h t ≡ 0
  unfolding at_end
  end_out h t q = rw (ne_eqb t h q)

  -- ---- without columns u and v

  module _ (u v : ℕ) (apart : u ≢ v) where
    -- one column more
    step : (n : ℕ) → real m (without u v a) (back m i (e * n)) n ⊕ (inside n u ⊕ inside n v) ≡ real m a (back m i (e * n)) n ⊕ (inside (n + 1) u ⊕ inside (n + 1) v)
    step n =
        by_same Goal n u
        (λ q. first q (inside_more n v (λ z. absurd (apart (omega arith)))))
        (λ q. by_same Goal n v
        (λ z. second z (inside_more n u (λ y. absurd (q (omega arith)))))
        (λ z. ap₂ ◌⊕◌ (without_real m u v a (back m i (e * n)) n q z) (ap₂ ◌⊕◌ (sym (inside_more n u (λ y. absurd (q (omega arith))))) (sym (inside_more n v (λ y. absurd (z (omega arith))))))))
      where
        Goal : Type 0
        Goal = real m (without u v a) (back m i (e * n)) n ⊕ (inside n u ⊕ inside n v) ≡ real m a (back m i (e * n)) n ⊕ (inside (n + 1) u ⊕ inside (n + 1) v)

        here : (t : ℕ) → n ≡ t → inside (n + 1) t ≡ real m a (back m i (e * n)) n
        here t q = inside_in (n + 1) t (omega arith) ∙ ap (λ (x : ℕ). real m a (back m i (e * x)) x) (sym q)

        one : (x y : ℕ) → 0 ⊕ (0 ⊕ y) ≡ x ⊕ (x ⊕ y)
        one x y = simp xor

        other : (x y : ℕ) → 0 ⊕ (y ⊕ 0) ≡ x ⊕ (y ⊕ x)
        other x y = simp xor

        first : n ≡ u → inside (n + 1) v ≡ inside n v → Goal
        first q k =
            ap₂ ◌⊕◌ (without_first m u v a (back m i (e * n)) n q) (ap₂ ◌⊕◌ (inside_out n u (omega arith)) (sym k))
            ∙ one (real m a (back m i (e * n)) n) (inside (n + 1) v)
            ∙ ap (λ (x : ℕ). real m a (back m i (e * n)) n ⊕ (x ⊕ inside (n + 1) v)) (sym (here u q))

        second : n ≡ v → inside (n + 1) u ≡ inside n u → Goal
        second q k =
            ap₂ ◌⊕◌ (without_second m u v a (back m i (e * n)) n q) (ap₂ ◌⊕◌ (sym k) (inside_out n v (omega arith)))
            ∙ other (real m a (back m i (e * n)) n) (inside (n + 1) u)
            ∙ ap (λ (x : ℕ). real m a (back m i (e * n)) n ⊕ (inside (n + 1) u ⊕ x)) (sym (here v q))

    span_but : (n : ℕ) → span m (without u v a) e i 0 n ≡ span m a e i 0 n ⊕ (inside n u ⊕ inside n v)
    span_but zero =
        span_none m (without u v a) e i 0
        ∙ sym (ap₂ ◌⊕◌ (span_none m a e i 0) (ap₂ ◌⊕◌ (inside_out 0 u (omega arith)) (inside_out 0 v (omega arith))) ∙ none)
      where
        none : 0 ⊕ (0 ⊕ 0) ≡ 0
        none = simp xor
    span_but (suc n) =
        subst (λ (x : ℕ). span m (without u v a) e i 0 x ≡ span m a e i 0 x ⊕ (inside x u ⊕ inside x v)) (add-one n)
        (sym (span_more m (without u v a) e i 0 n)
        ∙ ap (λ (x : ℕ). x ⊕ real m (without u v a) (back m i (e * n)) n) (span_but n)
        ∙ turn (span m a e i 0 n) (inside n u ⊕ inside n v) (real m (without u v a) (back m i (e * n)) n)
        ∙ ap (λ (x : ℕ). span m a e i 0 n ⊕ x) (step n)
        ∙ sym (⊕_assoc (span m a e i 0 n) (real m a (back m i (e * n)) n) (inside (n + 1) u ⊕ inside (n + 1) v))
        ∙ ap (λ (x : ℕ). x ⊕ (inside (n + 1) u ⊕ inside (n + 1) v)) (span_more m a e i 0 n))
      where
        turn : (x y z : ℕ) → x ⊕ y ⊕ z ≡ x ⊕ (z ⊕ y)
        turn x y z = simp xor

    end_but : (h : ℕ) → real m (without u v a) i h ≡ real m a i h ⊕ (at_end h u ⊕ at_end h v)
    end_but h =
        by_same Goal h u
        (λ q. without_first m u v a i h q ∙ sym (ap (λ (x : ℕ). real m a i h ⊕ x) (ap₂ ◌⊕◌ (end_in h u (sym q)) (end_out h v (λ z. absurd (apart (omega arith))))) ∙ one (real m a i h)))
        (λ q. by_same Goal h v
        (λ z. without_second m u v a i h z ∙ sym (ap (λ (x : ℕ). real m a i h ⊕ x) (ap₂ ◌⊕◌ (end_out h u (λ y. absurd (q (sym y)))) (end_in h v (sym z))) ∙ other (real m a i h)))
        (λ z. without_real m u v a i h q z ∙ sym (ap (λ (x : ℕ). real m a i h ⊕ x) (ap₂ ◌⊕◌ (end_out h u (λ y. absurd (q (sym y)))) (end_out h v (λ y. absurd (z (sym y))))) ∙ none (real m a i h))))
      where
        Goal : Type 0
        Goal = real m (without u v a) i h ≡ real m a i h ⊕ (at_end h u ⊕ at_end h v)

        one : (x : ℕ) → x ⊕ (x ⊕ 0) ≡ 0
        one x = simp xor

        other : (x : ℕ) → x ⊕ (0 ⊕ x) ≡ 0
        other x = simp xor

        none : (x : ℕ) → x ⊕ (0 ⊕ 0) ≡ x
        none x = simp xor

    pub ended_but : (h n : ℕ) → ended m (without u v a) e i h n ≡ ended m a e i h n ⊕ (crossing h n u ⊕ crossing h n v)
    unfolding ended
    ended_but h n = ap₂ ◌⊕◌ (end_but h) (span_but n) ∙ sums (real m a i h) (at_end h u) (at_end h v) (span m a e i 0 n) (inside n u) (inside n v)
      where
        sums : (p q r x y z : ℕ) → p ⊕ (q ⊕ r) ⊕ (x ⊕ (y ⊕ z)) ≡ p ⊕ x ⊕ (y ⊕ q ⊕ (z ⊕ r))
        sums p q r x y z = simp xor

-- ---- what the lines of a stripe of k data columns have in a column

module _ (m k : ℕ) (a : Lane) (i : ℕ) where
  pub row_crossing : (t : ℕ) → i < m → t ≤ k → crossing m a 0 i k k t ≡ real m a i t
  row_crossing t h most = by_order (crossing m a 0 i k k t ≡ real m a i t) t k
      (λ low. ap₂ ◌⊕◌ (inside_in m a 0 i k t low ∙ ap (λ (r : ℕ). real m a r t) (row_at m i t h)) (end_out m a 0 i k t (λ q. absurd (omega arith))) ∙ ⊕_zero (real m a i t))
      (λ past.
      let q : t ≡ k = omega arith in
      ap₂ ◌⊕◌ (inside_out m a 0 i k t past) (end_in m a 0 i k t q ∙ ap (real m a i) (sym q)) ∙ zero_⊕ (real m a i t))

  pub row_clear : (t : ℕ) → k < t → crossing m a 0 i k k t ≡ 0
  row_clear t h = ap₂ ◌⊕◌ (inside_out m a 0 i k t (omega arith)) (end_out m a 0 i k t (λ q. absurd (omega arith))) ∙ zero_⊕ 0

  pub diagonal_crossing : (t : ℕ) → t < k → crossing m a 1 i (k + 1) k t ≡ real m a (back m i (1 * t)) t
  diagonal_crossing t h = ap₂ ◌⊕◌ (inside_in m a 1 i k t h) (end_out m a 1 i (k + 1) t (λ q. absurd (omega arith))) ∙ ⊕_zero (real m a (back m i (1 * t)) t)

  pub diagonal_end : crossing m a 1 i (k + 1) k (k + 1) ≡ real m a i (k + 1)
  diagonal_end = ap₂ ◌⊕◌ (inside_out m a 1 i k (k + 1) (omega arith)) (end_in m a 1 i (k + 1) (k + 1) (omega arith)) ∙ zero_⊕ (real m a i (k + 1))

  pub diagonal_clear : (t : ℕ) → k ≤ t → t ≢ k + 1 → crossing m a 1 i (k + 1) k t ≡ 0
  diagonal_clear t h ne = ap₂ ◌⊕◌ (inside_out m a 1 i k t h) (end_out m a 1 i (k + 1) t ne) ∙ zero_⊕ 0

-- ---- where two lanes have the same bytes but in columns u and v

module _ (m k : ℕ) (a s : Lane) (u v : ℕ) (same : (r t : ℕ) → r < m - 1 → t < k + 2 → t ≢ u → t ≢ v → s r t ≡ a r t) where
  without_same : (r t : ℕ) → r < m - 1 → t < k + 2 → without u v s r t ≡ without u v a r t
  without_same r t hr ht = by_same (without u v s r t ≡ without u v a r t) t u
      (λ q. first_without m u v s r t q ∙ sym (first_without m u v a r t q))
      (λ q. by_same (without u v s r t ≡ without u v a r t) t v
      (λ z. second_without m u v s r t z ∙ sym (second_without m u v a r t z))
      (λ z. without_other m u v s r t q z ∙ same r t hr ht q z ∙ sym (without_other m u v a r t q z)))

  ended_same : (e i h n : ℕ) → h < k + 2 → n ≤ k + 2 → ended m (without u v s) e i h n ≡ ended m (without u v a) e i h n
  unfolding ended
  ended_same e i h n low most =
      ap₂ ◌⊕◌
      (real_same m (without u v s) (without u v a) i (λ hr. without_same i h hr low))
      (span_agree m (without u v s) (without u v a) e i 0 n (omega arith) (λ r t hr _ ht. without_same r t hr (omega arith)))

-- ---- where the equations hold

module _ (m k : ℕ) (big : 1 < m) (few : k ≤ m) (a : Lane) (holds : Holds m k a) where
  pub ended_row : (i : ℕ) → i < m → ended m a 0 i k k ≡ 0
  unfolding ended
  ended_row i h = ap (λ (x : ℕ). real m a i k ⊕ x) (span_line m a 0 i k ∙ row_is m k big few a holds i h) ∙ ⊕_self (real m a i k)

  pub ended_diagonal : (i : ℕ) → i < m → ended m a 1 i (k + 1) k ≡ S m k a
  unfolding ended
  ended_diagonal i h =
      ap (λ (x : ℕ). real m a i (k + 1) ⊕ x) (span_line m a 1 i k ∙ diagonal_is m k big few a holds i h) ∙ sums (real m a i (k + 1)) (S m k a)
    where
      sums : (x y : ℕ) → x ⊕ (y ⊕ x) ≡ y
      sums x y = simp xor

  module _ (s : Lane) (u v : ℕ) (apart : u ≢ v) (same : (r t : ℕ) → r < m - 1 → t < k + 2 → t ≢ u → t ≢ v → s r t ≡ a r t) where
    pub rows_left : (i : ℕ) → i < m → ended m (without u v s) 0 i k k ≡ crossing m a 0 i k k u ⊕ crossing m a 0 i k k v
    rows_left i h =
        ended_same m k a s u v same 0 i k k (omega arith) (omega arith)
        ∙ ended_but m a 0 i u v apart k k
        ∙ ap (λ (x : ℕ). x ⊕ (crossing m a 0 i k k u ⊕ crossing m a 0 i k k v)) (ended_row i h)
        ∙ zero_⊕ (crossing m a 0 i k k u ⊕ crossing m a 0 i k k v)

    pub diagonals_left : (i : ℕ) → i < m
        → ended m (without u v s) 1 i (k + 1) k ≡ S m k a ⊕ (crossing m a 1 i (k + 1) k u ⊕ crossing m a 1 i (k + 1) k v)
    diagonals_left i h =
        ended_same m k a s u v same 1 i (k + 1) k (omega arith) (omega arith)
        ∙ ended_but m a 1 i u v apart (k + 1) k
        ∙ ap (λ (x : ℕ). x ⊕ (crossing m a 1 i (k + 1) k u ⊕ crossing m a 1 i (k + 1) k v)) (ended_diagonal i h)
