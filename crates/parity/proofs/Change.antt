-- What depends on a data cell, column by column, and that data and amounts make a stripe.
--   depends_itself, depends_h, depends_d   of the cell's own column, of H and of D
--   depends_none, depends_other   no cell of another data column depends on it, and no other data cell
--   by_cell, data_stays  a cell is the one that was changed, or another; and the other data cells stay
--   same_data_amounts    stripes with the same data cells, whose equations are broken by the same amounts, are one
--   amounts_back, amounts_both   the same amounts, the other way round, and through a third stripe
--   amount_h_plus, amount_d_plus   the amounts of a sum of two lanes are the sums of their amounts
--   moved_along, moved_differs   where v has the amounts of s, a valid stripe is to v what another is to s; and it differs from v where that does from s
--   valid_amounts, amounts_valid   valid stripes have the same amounts, and a stripe with those of a valid one is valid
use mathlib.Core.Path.{◌≡◌, refl, sym, ap, ap₂, ◌∙◌}
use mathlib.Core.Logic.{◌≢◌}
use mathlib.Core.Bool.{Bool, true, false, cond, not, ◌||◌}
use mathlib.Core.List.{List}
use Prim.Native.Nat.{ℕ, suc, ◌+◌, ◌-◌, ◌<◌}
use native.Mathlib.Decide.{ℕ_discrete, dec_lt}
use native.Mathlib.Omega.{arith}
use lib.Dec.{eqb, ltb}
use lib.ListN.{length}
use borrow.Author.Tests.{eq-eqb, ne_eqb}
use Rattle.parity.specs.Xor.{◌⊕◌}
use Rattle.parity.specs.Sum.{sum}
use Rattle.parity.specs.Shape.{stripe_length}
use Rattle.parity.specs.Equations.{Lane, cell, back, H, S, D, amount_h, amount_d}
use Rattle.parity.specs.Stripe.{byte, lane, Stripe, Valid}
use Rattle.parity.specs.Presence.{differs}
use Rattle.parity.specs.Change.{stands_in_d, depends, SameAmounts, CellChanged}
use Rattle.parity.proofs.Xor.{⊕_self, ⊕_cancel, ⊕_lt, xor, by_sum}
use Rattle.parity.proofs.Sum.{sum_cong, sum_add}
use Rattle.parity.proofs.Cells.{H_same, D_same, holds_same}
use Rattle.parity.proofs.Bytes.{stripe_ext, build, build_byte, build_stripe}
use Rattle.parity.proofs.Count.{some_cong}
use Rattle.parity.proofs.Stripes.{byte_lt}
use Rattle.parity.proofs.Suspects.{hold_h, hold_d, amounts_hold}

or_none : (x : Bool) → (x || false) ≡ x
or_none true = refl
or_none false = refl

module _ (m k column row : ℕ) (inside : column < k) where
  pub depends_itself : (i : ℕ) → depends m k column row i column ≡ eqb i row
  unfolding depends
  depends_itself i = rw (eq-eqb column column refl, ne_eqb column k (λ e. absurd (omega (arith, e))), ne_eqb column (k + 1) (λ e. absurd (omega (arith, e)))) (or_none (eqb i row || false) ∙ or_none (eqb i row))

  pub depends_h : (i : ℕ) → depends m k column row i k ≡ eqb i row
  unfolding depends
  depends_h i = rw (ne_eqb k column (λ e. absurd (omega (arith, e))), eq-eqb k k refl, ne_eqb k (k + 1) (λ e. absurd (omega (arith, e)))) (or_none (eqb i row))

  pub depends_d : (i : ℕ) → depends m k column row i (k + 1) ≡ stands_in_d m column row i
  unfolding depends
  depends_d i = rw (ne_eqb (k + 1) column (λ e. absurd (omega (arith, e))), ne_eqb (k + 1) k (λ e. absurd (omega (arith, e))), eq-eqb (k + 1) (k + 1) refl)

  pub depends_none : (i t : ℕ) → t < k → t ≢ column → depends m k column row i t ≡ false
  unfolding depends
  depends_none i t h ne = rw (ne_eqb t column ne, ne_eqb t k (λ e. absurd (omega (arith, e))), ne_eqb t (k + 1) (λ e. absurd (omega (arith, e))))

  -- so of the data cells it is that one alone
  pub depends_other : (i t : ℕ) → t < k → (t ≡ column → i ≢ row) → depends m k column row i t ≡ false
  depends_other i t h ne = elim (ℕ_discrete t column) [
    | yes e ↦ rw e (depends_itself i ∙ ne_eqb i row (ne e))
    | no apart ↦ depends_none i t h apart
  ]

-- ---- the same data and the same amounts

module _ (m k : ℕ) (a c : Lane) (alike : (i t : ℕ) → i < m - 1 → t < k → a i t ≡ c i t) where
  h_same : (i : ℕ) → amount_h m k a i ≡ amount_h m k c i → a i k ≡ c i k
  unfolding amount_h
  h_same i e = by_sum e (⊕_cancel (a i k) (H m k a i) ∙ H_same m k a c alike i ∙ sym (⊕_cancel (c i k) (H m k c i)))

  d_same : (i : ℕ) → amount_d m k a i ≡ amount_d m k c i → a i (k + 1) ≡ c i (k + 1)
  unfolding amount_d
  d_same i e = by_sum e (⊕_cancel (a i (k + 1)) (D m k a i) ∙ D_same m k a c alike i ∙ sym (⊕_cancel (c i (k + 1)) (D m k c i)))

pub same_data_amounts : (m k b : ℕ) → 1 < m → 0 < b → (s v : List ℕ) → length s ≡ stripe_length m k b → length v ≡ stripe_length m k b
    → ((l i t : ℕ) → l < b → i < m - 1 → t < k → byte m b s l i t ≡ byte m b v l i t) → SameAmounts m k b s v → s ≡ v
same_data_amounts m k b big full s v ls lv alike same = stripe_ext m k b big full s v ls lv (λ l i t hl hi ht. elim (dec_lt t k) [
  | yes low ↦ alike l i t hl hi low
  | no high ↦ elim (ℕ_discrete t k) [
    | yes e ↦ rw e (h_same m k (lane m b s l) (lane m b v l) (λ i t hi ht. alike l i t hl hi ht) i (sym (same.rows l i hl hi)))
    | no ne ↦ let e : t ≡ k + 1 = omega (arith, ne) in rw e (d_same m k (lane m b s l) (lane m b v l) (λ i t hi ht. alike l i t hl hi ht) i (sym (same.diagonals l i hl hi)))
  ]
])

module _ {m k b : ℕ} where
  pub amounts_back : {s v : List ℕ} → SameAmounts m k b s v → SameAmounts m k b v s
  amounts_back p = record { rows = λ l i hl hi. sym (p.rows l i hl hi); diagonals = λ l i hl hi. sym (p.diagonals l i hl hi) }

  pub amounts_both : {s v w : List ℕ} → SameAmounts m k b s v → SameAmounts m k b v w → SameAmounts m k b s w
  amounts_both p q = record { rows = λ l i hl hi. q.rows l i hl hi ∙ p.rows l i hl hi; diagonals = λ l i hl hi. q.diagonals l i hl hi ∙ p.diagonals l i hl hi }

-- ---- valid stripes

pub valid_amounts : {m k b : ℕ} {s v : List ℕ} → Valid m k b s → Valid m k b v → SameAmounts m k b s v
valid_amounts {m} {k} {b} {s} {v} p q = record {
  rows = λ l i hl hi. hold_h m k (lane m b v l) (q.lanes l hl) i hi ∙ sym (hold_h m k (lane m b s l) (p.lanes l hl) i hi);
  diagonals = λ l i hl hi. hold_d m k (lane m b v l) (q.lanes l hl) i hi ∙ sym (hold_d m k (lane m b s l) (p.lanes l hl) i hi);
}

pub amounts_valid : {m k b : ℕ} {s v : List ℕ} → Valid m k b s → SameAmounts m k b s v → Stripe m k b v → Valid m k b v
amounts_valid {m} {k} {b} {s} {v} p same stripe = record {
  stripe = stripe;
  lanes = λ l hl. amounts_hold m k (lane m b v l)
      (λ i hi. same.rows l i hl hi ∙ hold_h m k (lane m b s l) (p.lanes l hl) i hi)
      (λ i hi. same.diagonals l i hl hi ∙ hold_d m k (lane m b s l) (p.lanes l hl) i hi);
}

-- ---- a changed cell

-- a cell is the one in row `row` of column `column`, or another
pub by_cell : (P : Type 0) (t i column row : ℕ) → (t ≡ column → i ≡ row → P) → ((t ≡ column → i ≢ row) → P) → P
by_cell P t i column row same other = elim (ℕ_discrete t column) [
  | yes e ↦ elim (ℕ_discrete i row) [ yes d ↦ same e d | no ne ↦ other (λ _. ne) ]
  | no ne ↦ other (λ e. absurd (ne e))
]

-- all data cells but that one stay
pub data_stays : {m k b column row : ℕ} {cell s v : List ℕ} → column < k → CellChanged m k b column row cell s v
    → (l i t : ℕ) → l < b → i < m - 1 → t < k → (t ≡ column → i ≢ row) → byte m b v l i t ≡ byte m b s l i t
data_stays {m} {k} {b} {column} {row} {cell} {s} {v} inside p l i t hl hi ht ne = p.stays l i t hl hi (omega arith) (depends_other m k column row inside i t ht ne)

-- ---- the amounts of a sum are the sum of the amounts

module _ (m k : ℕ) (a c : Lane) where
  abbrev plus : Lane
  plus i t = a i t ⊕ c i t

  cell_plus : (i t : ℕ) → cell m k plus i t ≡ cell m k a i t ⊕ cell m k c i t
  unfolding cell
  cell_plus i t = inner (ltb i (m - 1)) (ltb t k)
    where
      inner : (x y : Bool) → cond x (cond y (a i t ⊕ c i t) 0) 0 ≡ cond x (cond y (a i t) 0) 0 ⊕ cond x (cond y (c i t) 0) 0
      inner true true = refl
      inner true false = sym (⊕_self 0)
      inner false y = sym (⊕_self 0)

  sum_plus : (n : ℕ) (p q : ℕ → ℕ) → sum n (λ x. cell m k plus (p x) (q x)) ≡ sum n (λ x. cell m k a (p x) (q x)) ⊕ sum n (λ x. cell m k c (p x) (q x))
  sum_plus n p q = sum_cong n (λ x _. cell_plus (p x) (q x)) ∙ sum_add n (λ x. cell m k a (p x) (q x)) (λ x. cell m k c (p x) (q x))

  pub amount_h_plus : (i : ℕ) → amount_h m k plus i ≡ amount_h m k a i ⊕ amount_h m k c i
  unfolding amount_h H
  amount_h_plus i = ap (λ x. a i k ⊕ c i k ⊕ x) (sum_plus m (λ _. i) (λ t. t)) ∙ simp xor

  pub amount_d_plus : (i : ℕ) → amount_d m k plus i ≡ amount_d m k a i ⊕ amount_d m k c i
  unfolding amount_d D S
  amount_d_plus i = ap₂ (λ x y. a i (k + 1) ⊕ c i (k + 1) ⊕ (x ⊕ y)) (sum_plus (m - 1) (λ j. m - 1 - suc j) suc) (sum_plus m (back m i) (λ t. t)) ∙ tidy (a i (k + 1)) (c i (k + 1)) _ _ _ _
    where
      tidy : (p q x y u v : ℕ) → p ⊕ q ⊕ (x ⊕ y ⊕ (u ⊕ v)) ≡ p ⊕ (x ⊕ u) ⊕ (q ⊕ (y ⊕ v))
      tidy p q x y u v = simp xor

-- So where v has the amounts of s, a valid stripe is to v what another is to s: the sum of the three.
module _ (m k b : ℕ) (s v other : List ℕ) (ps : Stripe m k b s) (pv : Stripe m k b v) (same : SameAmounts m k b s v) (valid : Valid m k b other) where
  three : ℕ → Lane
  three l i t = byte m b other l i t ⊕ (byte m b s l i t ⊕ byte m b v l i t)

  three_h : (l i : ℕ) → l < b → i < m - 1 → amount_h m k (three l) i ≡ 0
  unfolding three
  three_h l i hl hi =
      amount_h_plus m k (lane m b other l) (λ i t. byte m b s l i t ⊕ byte m b v l i t) i
      ∙ ap₂ ◌⊕◌ (hold_h m k (lane m b other l) (valid.lanes l hl) i hi)
      (amount_h_plus m k (lane m b s l) (lane m b v l) i ∙ ap (λ x. amount_h m k (lane m b s l) i ⊕ x) (same.rows l i hl hi) ∙ ⊕_self (amount_h m k (lane m b s l) i))
      ∙ ⊕_self 0

  three_d : (l i : ℕ) → l < b → i < m - 1 → amount_d m k (three l) i ≡ 0
  unfolding three
  three_d l i hl hi =
      amount_d_plus m k (lane m b other l) (λ i t. byte m b s l i t ⊕ byte m b v l i t) i
      ∙ ap₂ ◌⊕◌ (hold_d m k (lane m b other l) (valid.lanes l hl) i hi)
      (amount_d_plus m k (lane m b s l) (lane m b v l) i ∙ ap (λ x. amount_d m k (lane m b s l) i ⊕ x) (same.diagonals l i hl hi) ∙ ⊕_self (amount_d m k (lane m b s l) i))
      ∙ ⊕_self 0

  small : (l i t : ℕ) → three l i t < 256
  unfolding three
  small l i t = ⊕_lt _ _ (byte_lt m k b other valid.stripe l i t) (⊕_lt _ _ (byte_lt m k b s ps l i t) (byte_lt m k b v pv l i t))

  pub moved_along : (w : List ℕ) × Valid m k b w × ((l i t : ℕ) → l < b → i < m - 1 → t < k + 2 → byte m b w l i t ≡ byte m b other l i t ⊕ (byte m b s l i t ⊕ byte m b v l i t))
  unfolding three
  moved_along = (
    build m k b three,
    record {
      stripe = build_stripe m k b three small;
      lanes = λ l hl. holds_same m k (three l) (lane m b (build m k b three) l) (λ i t hi ht. sym (build_byte m k b three l i t hl hi ht)) (amounts_hold m k (three l) (λ i hi. three_h l i hl hi) (λ i hi. three_d l i hl hi));
    },
    λ l i t hl hi ht. build_byte m k b three l i t hl hi ht,
  )

-- the sum of three stripes differs from the third where the first does from the second
pub moved_differs : (m k b : ℕ) (s v other w : List ℕ) → ((l i t : ℕ) → l < b → i < m - 1 → t < k + 2 → byte m b w l i t ≡ byte m b other l i t ⊕ (byte m b s l i t ⊕ byte m b v l i t))
    → (t : ℕ) → t < k + 2 → differs m b v w t ≡ differs m b s other t
unfolding differs
moved_differs m k b s v other w sums t ht = some_cong (m - 1) (λ i hi. some_cong b (λ l hl.
    ap not (ap (eqb (byte m b v l i t)) (sums l i t hl hi ht) ∙ tells_apart (byte m b v l i t) (byte m b s l i t) (byte m b other l i t))))
  where
    tells_apart : (x y o : ℕ) → eqb x (o ⊕ (y ⊕ x)) ≡ eqb y o
    tells_apart x y o = elim (ℕ_discrete y o) [
      | yes e ↦ eq-eqb x (o ⊕ (y ⊕ x)) (rw e (simp xor)) ∙ sym (eq-eqb y o e)
      | no ne ↦ ne_eqb x (o ⊕ (y ⊕ x)) (λ q. ne (by_sum q (simp xor))) ∙ sym (ne_eqb y o ne)
    ]
