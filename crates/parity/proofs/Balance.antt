-- The parity equations say that the columns of a stripe bring nothing to the rows and the diagonals: k data columns, then H and D.
-- So with two columns absent, of which an inverse tells two data columns apart, exactly one lane fits whose equations hold.
--   Frame m k              an odd m above 1, and at most m data columns
--   Served m k u v         columns u < v that can be told from the others
--   But m k u v a b        the lanes are the same but in columns u and v
--   at_most_one, at_least_one
use mathlib.Core.Path.{◌≡◌, sym, ap, ap₂, ◌∙◌, fun_ext}
use mathlib.Core.Logic.{◌≢◌, ◌⊎◌, inl, inr}
use mathlib.Core.Bool.{cond}
use Prim.Native.Nat.{ℕ, suc, ◌+◌, ◌-◌, ◌*◌, ◌%◌, ◌≤◌, ◌<◌}
use native.Mathlib.Nat.{le_refl, lt-suc_self, eq-or-lt_of_le, ne_of_lt}
use native.Mathlib.Numerals.{add-one}
use native.Mathlib.Decide.{dec_lt}
use native.Mathlib.Omega.{arith}
use lib.Dec.{ltb, lt→ltb}
use lib.Arith.{le→nltb}
use Rattle.parity.specs.Xor.{◌⊕◌}
use Rattle.parity.specs.Sum.{sum}
use Rattle.parity.specs.Equations.{Lane, cell, back, H, D, Holds}
use Rattle.parity.proofs.Xor.{⊕_self, ⊕_eq, xor}
use Rattle.parity.proofs.Sum.{sum_cong, sum_add, sum_cut}
use Rattle.parity.proofs.Column.{O, total}
use Rattle.parity.proofs.Turn.{Col, row, turn, row_in, row_out}
use Rattle.parity.proofs.Pair.{Place, line, sum_h, sum_d, to_h, to_d, Told, line_line, line_h, line_d, h_d}
use Rattle.parity.proofs.Array.{all_h, all_d, Good, determined, completed}
use Rattle.parity.proofs.Cells.{when_true, when_false, diagonal, cell_real, cell_imaginary, cell_below, S_diagonal}

-- what column t of a stripe is
unfoldable pub place : ℕ → ℕ → Place
place k t = cond (ltb t k) (line t) (cond (ltb k t) sum_d sum_h)

place_line_lem : (k t : ℕ) → t < k → place k t ≡ line t
unfolding place
place_line_lem k t l = when_true (ltb t k) (line t) (cond (ltb k t) sum_d sum_h) (lt→ltb t k l)

place_h : (k : ℕ) → place k k ≡ sum_h
unfolding place
place_h k = when_false (ltb k k) (line k) (cond (ltb k k) sum_d sum_h) (le→nltb k k (le_refl k)) ∙ when_false (ltb k k) sum_d sum_h (le→nltb k k (le_refl k))

place_d : (k : ℕ) → place k (suc k) ≡ sum_d
unfolding place
place_d k = when_false (ltb (suc k) k) (line (suc k)) (cond (ltb k (suc k)) sum_d sum_h) (le→nltb (suc k) k (omega arith)) ∙ when_true (ltb k (suc k)) sum_d sum_h (lt→ltb k (suc k) (lt-suc_self k))

-- column t of a lane
unfoldable pub col : (m : ℕ) → Lane → ℕ → Col m
col m a t x = a x.0 t

pub record Frame (m k : ℕ) : Type 0 where
  pub odd : m % 2 ≡ 1
  pub big : 1 < m
  pub small : k ≤ m

module _ (m k : ℕ) (w : Frame m k) (a : Lane) where
  cell_row : (i t : ℕ) → t < k → cell m k a i t ≡ row m (col m a t) i
  unfolding col
  cell_row i t l = go (dec_lt i (m - 1))
    where
      go : Dec (i < m - 1) → cell m k a i t ≡ row m (col m a t) i
      go (yes h) = cell_real m k a i t h l ∙ sym (row_in m (col m a t) (i, h))
      go (no h) = cell_below m k a i t (omega arith) ∙ sym (row_out m (col m a t) i (omega arith))

  -- what the data columns bring
  lines_h : (x : (i : ℕ) × (i < m - 1)) → H m k a x.0 ≡ sum k (λ t. col m a t x)
  unfolding H
  lines_h x = sum_cut k m w.small (λ t c d. cell_imaginary m k a x.0 t c) ∙ sum_cong k (λ t c. cell_row x.0 t c ∙ row_in m (col m a t) x)

  lines_d : (x : (i : ℕ) × (i < m - 1)) → diagonal m k a x.0 ⊕ diagonal m k a (m - 1) ≡ sum k (λ t. turn m (m - t) (col m a t) x)
  unfolding diagonal turn back
  lines_d x =
      sym (sum_add m (λ t. cell m k a (back m x.0 t) t) (λ t. cell m k a (back m (m - 1) t) t))
      ∙ sum_cut k m w.small (λ t c d. ap₂ ◌⊕◌ (cell_imaginary m k a (back m x.0 t) t c) (cell_imaginary m k a (back m (m - 1) t) t c) ∙ ⊕_self 0)
      ∙ sum_cong k (λ t c. ap₂ ◌⊕◌ (cell_row (back m x.0 t) t c) (cell_row (back m (m - 1) t) t c))

  -- what all columns bring: the amounts by which the equations break
  rows_are : (x : (i : ℕ) × (i < m - 1)) → all_h m (suc (suc k)) (place k) (col m a) x ≡ a x.0 k ⊕ H m k a x.0
  unfolding all_h total sum col O
  rows_are x =
      ap₂ ◌⊕◌ (ap₂ ◌⊕◌ (sum_cong k (λ t c. ap (λ p. to_h m p (col m a t) x) (place_line_lem k t c)) ∙ sym (lines_h x)) (ap (λ p. to_h m p (col m a k) x) (place_h k)))
      (ap (λ p. to_h m p (col m a (suc k)) x) (place_d k))
      ∙ tidy (H m k a x.0) (a x.0 k)
    where
      tidy : (y z : ℕ) → y ⊕ z ⊕ 0 ≡ z ⊕ y
      tidy y z = simp xor

  diagonals_are : (x : (i : ℕ) × (i < m - 1)) → all_d m (suc (suc k)) (place k) (col m a) x ≡ a x.0 (k + 1) ⊕ D m k a x.0
  unfolding all_d total sum col O D diagonal
  diagonals_are x =
      ap₂ ◌⊕◌ (ap₂ ◌⊕◌ (sum_cong k (λ t c. ap (λ p. to_d m p (col m a t) x) (place_line_lem k t c)) ∙ sym (lines_d x)) (ap (λ p. to_d m p (col m a k) x) (place_h k)))
      (ap (λ p. to_d m p (col m a (suc k)) x) (place_d k) ∙ ap (λ t. a x.0 t) (sym (add-one k)))
      ∙ tidy (diagonal m k a x.0) (diagonal m k a (m - 1)) (a x.0 (k + 1)) ∙ ap (λ s. a x.0 (k + 1) ⊕ (s ⊕ diagonal m k a x.0)) (sym (S_diagonal m k a w.big))
    where
      tidy : (y s z : ℕ) → y ⊕ s ⊕ 0 ⊕ z ≡ z ⊕ (s ⊕ y)
      tidy y s z = simp xor

  holds_good : Holds m k a → Good m (suc (suc k)) (place k) (col m a)
  unfolding O
  holds_good v = record {
    rows = fun_ext (λ x. rows_are x ∙ ap (λ y. y ⊕ H m k a x.0) (v.h x.0 x.1) ∙ ⊕_self (H m k a x.0));
    diagonals = fun_ext (λ x. diagonals_are x ∙ ap (λ y. y ⊕ D m k a x.0) (v.d x.0 x.1) ∙ ⊕_self (D m k a x.0));
  }

  good_holds : Good m (suc (suc k)) (place k) (col m a) → Holds m k a
  unfolding O
  good_holds g = record {
    h = λ i l. ⊕_eq (a i k) (H m k a i) (sym (rows_are (i, l)) ∙ ap (λ f. f (i, l)) g.rows);
    d = λ i l. ⊕_eq (a i (k + 1)) (D m k a i) (sym (diagonals_are (i, l)) ∙ ap (λ f. f (i, l)) g.diagonals);
  }

-- columns u < v of k + 2 that can be told from the others: of two data columns, v - u has an inverse modulo m
pub record Served (m k u v : ℕ) : Type 0 where
  pub order : u < v
  pub there : v < k + 2
  pub inverse : v < k → (e : ℕ) × ((v - u) * e % m ≡ 1)

-- the same bytes but in columns u and v
pub record But (m k u v : ℕ) (a b : Lane) : Type 0 where
  pub at : (i t : ℕ) → i < m - 1 → t < k + 2 → t ≢ u → t ≢ v → a i t ≡ b i t

module _ (m k : ℕ) (w : Frame m k) (u v : ℕ) (s : Served m k u v) where
  told : Told m (place k u) (place k v)
  told = let o = s.order in let t = s.there in let n = w.small in pick (eq-or-lt_of_le {n = v} {m = suc k} (omega arith))
    where
      low : (v ≡ k) ⊎ (v < k) → Told m (place k u) (place k v)
      low (inl e) = let o = s.order in let n = w.small in rw (e, place_h k, place_line_lem k u (omega arith)) (line_h {u = u} (omega arith))
      low (inr l) = let o = s.order in let n = w.small in let e = s.inverse l in rw (place_line_lem k v l, place_line_lem k u (omega arith)) (line_line o (omega arith) e.0 e.1)

      high : v ≡ suc k → (u ≡ k) ⊎ (u < k) → Told m (place k u) (place k v)
      high e (inl c) = rw (e, c, place_h k, place_d k) h_d
      high e (inr l) = let n = w.small in rw (e, place_d k, place_line_lem k u l) (line_d {u = u} (omega arith))

      pick : (v ≡ suc k) ⊎ (v < suc k) → Told m (place k u) (place k v)
      pick (inl e) = let o = s.order in high e (eq-or-lt_of_le {n = u} {m = k} (omega arith))
      pick (inr l) = low (eq-or-lt_of_le {n = v} {m = k} (omega arith))

  pub at_most_one : (a b : Lane) → Holds m k a → Holds m k b → But m k u v a b → (i t : ℕ) → i < m - 1 → t < k + 2 → a i t ≡ b i t
  unfolding col
  at_most_one a b va vb same i t hi ht =
      let o = s.order in let h = s.there in
      ap (λ c. c (i, hi)) (determined m (suc (suc k)) (place k) u v (omega arith) (omega arith) (ne_of_lt o) w.odd w.big told (col m a) (col m b)
      (holds_good m k w a va) (holds_good m k w b vb) (λ t ht nu nv. fun_ext (λ x. same.at x.0 t x.1 (omega arith) nu nv)) t (omega arith))

  pub at_least_one : (a : Lane) → (b : Lane) × Holds m k b × But m k u v a b
  unfolding col
  at_least_one a =
      let o = s.order in let h = s.there in
      let r = completed m (suc (suc k)) (place k) u v (omega arith) (omega arith) (ne_of_lt o) w.odd w.big told (col m a) in
      let b : Lane = λ i t. row m (r.0 t) i in
      let same : col m b ≡ r.0 = fun_ext (λ t. fun_ext (λ x. row_in m (r.0 t) x)) in (
        b,
        good_holds m k w b (rw same r.1),
        record { at = λ i t hi ht nu nv. ap (λ c. c (i, hi)) (r.2 t (omega arith) nu nv) ∙ sym (row_in m (r.0 t) (i, hi)) },
      )
