-- Why a changed cell keeps the amounts: what is added to it is added to every parity cell in whose equation it stands.
--   row_within, column_within   where cells lie
--   copied          a cell that was copied
--   same_diagonal   a row of a column lies on one diagonal
--   last_back       S has row m - 1 - t of column t
--   stands_each, stands_own     a cell stands in every equation of D where its diagonal is that of S, and else in that of its diagonal
--   H_grown, D_grown   where n was added to one data cell, what an equation asks for grows by n where that cell stands in it
--   rows_kept, diagonals_kept, parity_grown   so a lane in which everything that depends on the cell grew by n keeps its amounts; and the other way round
--   of_grown, of_columns   so a stripe is changed in that cell where in every lane what depends on it grew by what it changed by
--   apart           no byte of a cell is one of another's
--   changed_off_s, changed_on_s, changed_owing   what the code leaves of a stripe, off the diagonal of S and on it, and on it where D's cells are owed what they
--                   would get
use borrow.Rule.Slice.PartMut.{put_mid}
use mathlib.Core.Path.{◌≡◌, refl, sym, ap, ap₂, subst, ◌∙◌}
use mathlib.Core.Logic.{◌≢◌}
use mathlib.Core.Bool.{Bool, true, false, cond, ◌||◌}
use mathlib.Core.List.{List}
use Prim.Native.Nat.{ℕ, ◌+◌, ◌-◌, ◌*◌, ◌≤◌, ◌<◌}
use native.Mathlib.Decide.{ℕ_discrete, dec_lt}
use native.Mathlib.Omega.{arith}
use lib.Dec.{eqb}
use lib.ListN.{length, get_or}
use borrow.Author.Tests.{eqb-true, eq-eqb, ne_eqb}
use Rattle.parity.specs.Xor.{◌⊕◌}
use Rattle.parity.specs.Sum.{sum}
use Rattle.parity.specs.Equations.{Lane, cell, back, H, S, D, amount_h, amount_d}
use Rattle.parity.specs.Stripe.{lane}
use Rattle.parity.specs.Change.{stands_in_d, depends, CellChanged}
use Rattle.parity.proofs.Xor.{⊕_assoc, ⊕_self, ⊕_zero, zero_⊕, ⊕_cancel, ⊕_move, xor, by_sum}
use Rattle.parity.proofs.Sum.{sum_add, sum_one}
use Rattle.parity.proofs.Cells.{diagonal, S_diagonal, cell_real, cell_below, cell_same}
use Rattle.parity.proofs.Change.{depends_itself, depends_h, depends_d, depends_none, depends_other, by_cell}
use Rattle.cells.specs.Runs.{Added, Put, Exchanged}
use Rattle.cells.proofs.Parts.{parts_end, by_order}
use Rattle.cells.proofs.Puts.{put_count, put_part_lem}
use Rattle.lines.specs.declared.Grid.{Grid}
use Rattle.lines.specs.Lines.{Sized, Laid}
use Rattle.lines.specs.Rows.{Lined}
use Rattle.lines.proofs.Lines.{up_around, up_straight, column_is}
use Rattle.lines.proofs.Cells.{at_row}
use Rattle.changing.specs.Owed.{OncePaid}
use Rattle.changing.proofs.Owed.{paid_other, paid_d}

-- ---- where cells lie

module _ {g : Grid} {s : List ℕ} (laid : Laid g s) where
  pub row_within : (i : ℕ) → i < g.m - 1 → i * g.b + g.b ≤ g.column
  row_within i h = omega (arith, parts_end g.b h, column_is g.m g.b g.column laid.sized)

  -- column x ends within the stripe
  pub column_within : (x : ℕ) → x < g.k + 2 → x * g.column + g.column ≤ length s
  column_within x h = omega (arith, parts_end g.column h, laid.whole)

-- ---- a cell that was copied

-- a lent cell that came back as another
pub copied : (w y cell : List ℕ) (at b : ℕ) → at + b ≤ length w → length cell ≡ b → y ≡ cell → Put w (put_mid at (at + b - at) w y) at b (λ l. get_or cell l 0)
copied w y cell at b room size e =
    put_count (put_part_lem w y at (at + b - at) (λ l. get_or cell l 0) (omega arith) (ap length e ∙ size ∙ omega arith) (λ l h. ap (λ (x : List ℕ). get_or x l 0) e)) (omega arith)

-- ---- which equations a cell stands in

-- of two diagonals that are in one row of column t, both are one
pub same_diagonal : (m t d r : ℕ) → t < m → d < m → r < m → back m d t ≡ back m r t → d ≡ r
same_diagonal m t d r ht hd hr e = by_order (d ≡ r) d t
    (λ d_low. by_order (d ≡ r) r t
    (λ r_low. omega (arith, up_around m t d d_low (omega arith), up_around m t r r_low (omega arith), e))
    (λ r-high. omega (arith, up_around m t d d_low (omega arith), up_straight m t r r-high hr, e)))
    (λ d-high. by_order (d ≡ r) r t
    (λ r_low. omega (arith, up_straight m t d d-high hd, up_around m t r r_low (omega arith), e))
    (λ r-high. omega (arith, up_straight m t d d-high hd, up_straight m t r r-high hr, e)))

-- S is diagonal m - 1
pub last_back : (m t : ℕ) → 1 < m → t < m → back m (m - 1) t ≡ m - 1 - t
last_back m t big h = sym (up_straight m t (m - 1) (omega arith) (omega arith))

module _ (m t i d : ℕ) (big : 1 < m) (ht : t < m) (hd : d < m) (own : back m d t ≡ i) where
  pub stands_each : d ≡ m - 1 → (r : ℕ) → stands_in_d m t i r ≡ true
  unfolding stands_in_d
  stands_each e r = rw (eq-eqb (m - 1 - t) i (sym (last_back m t big ht) ∙ ap (λ (x : ℕ). back m x t) (sym e) ∙ own))

  pub stands_own : d ≢ m - 1 → (r : ℕ) → r < m → stands_in_d m t i r ≡ eqb r d
  unfolding stands_in_d
  stands_own ne r hr =
      rw (ne_eqb (m - 1 - t) i (λ e. ne (same_diagonal m t d (m - 1) ht hd (omega arith) (own ∙ sym e ∙ sym (last_back m t big ht)))))
      (elim (ℕ_discrete r d) [
        | yes e ↦ eq-eqb (back m r t) i (ap (λ (x : ℕ). back m x t) e ∙ own) ∙ sym (eq-eqb r d e)
        | no other ↦ ne_eqb (back m r t) i (λ e. other (same_diagonal m t r d ht hr hd (e ∙ sym own))) ∙ sym (ne_eqb r d other)
      ])

-- ---- amounts

-- of two tests of which at most one passes
either : (x y : Bool) (n : ℕ) → (x ≡ true → y ≡ false) → cond (x || y) n 0 ≡ cond x n 0 ⊕ cond y n 0
either true y n alone = sym (ap (λ (z : Bool). n ⊕ cond z n 0) (alone refl) ∙ ⊕_zero n)
either false y n alone = sym (zero_⊕ (cond y n 0))

-- In lane c the data cells are those of lane a, but that n was added to the cell in row i of column t.
module _ (m k t i n : ℕ) (a c : Lane) (big : 1 < m) (few : k ≤ m) (ht : t < k) (hi : i < m - 1)
    (grown : (r x : ℕ) → r < m - 1 → x < k → c r x ≡ a r x ⊕ cond (depends m k t i r x) n 0) where
  -- a sum of one cell of each column grows by n if it has the cell
  cell_grown : (r : ℕ) → cell m k c r t ⊕ cell m k a r t ≡ cond (eqb r i) n 0
  cell_grown r = elim (dec_lt r (m - 1)) [
    | yes h ↦ ap₂ ◌⊕◌ (cell_real m k c r t h ht ∙ grown r t h ht ∙ ap (λ (z : Bool). a r t ⊕ cond z n 0) (depends_itself m k t i ht r)) (cell_real m k a r t h ht)
        ∙ tidy (a r t) (cond (eqb r i) n 0)
    | no h ↦ ap₂ ◌⊕◌ (cell_below m k c r t (omega arith)) (cell_below m k a r t (omega arith)) ∙ ⊕_self 0 ∙ ap (λ (z : Bool). cond z n 0) (sym (ne_eqb r i (λ e. absurd (omega (arith, e)))))
  ]
    where
      tidy : (x y : ℕ) → x ⊕ y ⊕ x ≡ y
      tidy x y = simp xor

  sum_grown : (p : ℕ → ℕ) → sum m (λ x. cell m k c (p x) x) ≡ sum m (λ x. cell m k a (p x) x) ⊕ cond (eqb (p t) i) n 0
  sum_grown p = by_sum (
      sym (sum_add m (λ x. cell m k c (p x) x) (λ x. cell m k a (p x) x))
      ∙ sum_one m t (omega arith) (λ x _ ne. ap (λ (z : ℕ). z ⊕ cell m k a (p x) x) (cell_same m k c a (p x) x (λ h hx.
      grown (p x) x h hx ∙ ap (λ (z : Bool). a (p x) x ⊕ cond z n 0) (depends_none m k t i ht (p x) x hx ne) ∙ ⊕_zero (a (p x) x))) ∙ ⊕_self (cell m k a (p x) x))
      ∙ cell_grown (p t)) (simp xor)

  -- so what the equation of H's cell in row r asks for grows by n where the cell stands in it
  pub H_grown : (r : ℕ) → H m k c r ≡ H m k a r ⊕ cond (depends m k t i r k) n 0
  unfolding H
  H_grown r = sum_grown (λ _. r) ∙ ap (λ (z : Bool). sum m (cell m k a r) ⊕ cond z n 0) (sym (depends_h m k t i ht r))

  -- it is in S, or in diagonal r, or in neither: in both it would be in the imaginary row
  stands_apart : (r : ℕ) → r < m - 1 → eqb (m - 1 - t) i ≡ true → eqb (back m r t) i ≡ false
  stands_apart r h e = ne_eqb (back m r t) i (λ q. absurd (
      let z : r ≡ m - 1 = same_diagonal m t r (m - 1) (omega arith) (omega arith) (omega arith) (q ∙ sym (eqb-true (m - 1 - t) i e) ∙ sym (last_back m t big (omega arith))) in omega (arith, z)))

  -- and so does what that of D's cell asks for
  pub D_grown : (r : ℕ) → r < m - 1 → D m k c r ≡ D m k a r ⊕ cond (depends m k t i r (k + 1)) n 0
  unfolding D stands_in_d diagonal
  D_grown r h =
      ap₂ ◌⊕◌ special (sum_grown (back m r))
      ∙ tidy (S m k a) (cond (eqb (m - 1 - t) i) n 0) (sum m (λ x. cell m k a (back m r x) x)) (cond (eqb (back m r t) i) n 0)
      ∙ ap (λ (z : ℕ). S m k a ⊕ sum m (λ x. cell m k a (back m r x) x) ⊕ z)
      (sym (ap (λ (z : Bool). cond z n 0) (depends_d m k t i ht r) ∙ either (eqb (m - 1 - t) i) (eqb (back m r t) i) n (stands_apart r h)))
    where
      special : S m k c ≡ S m k a ⊕ cond (eqb (m - 1 - t) i) n 0
      special =
          S_diagonal m k c big ∙ sum_grown (back m (m - 1))
          ∙ ap₂ ◌⊕◌ (sym (S_diagonal m k a big)) (ap (λ (z : ℕ). cond (eqb z i) n 0) (last_back m t big (omega arith)))

      tidy : (x y z w : ℕ) → x ⊕ y ⊕ (z ⊕ w) ≡ x ⊕ z ⊕ (y ⊕ w)
      tidy x y z w = simp xor

-- A parity cell grew as its equation did exactly where its amount is what it was.
amount_kept : (a c x y n : ℕ) → c ≡ a ⊕ n → y ≡ x ⊕ n → c ⊕ y ≡ a ⊕ x
amount_kept a c x y n p q = ap₂ ◌⊕◌ p q ∙ tidy a n x
  where
    tidy : (a n x : ℕ) → a ⊕ n ⊕ (x ⊕ n) ≡ a ⊕ x
    tidy a n x = simp xor

amount_grown : (a c x y n : ℕ) → c ⊕ y ≡ a ⊕ x → y ≡ x ⊕ n → c ≡ a ⊕ n
amount_grown a c x y n p q = ⊕_move c y (a ⊕ x) p ∙ ap (λ (z : ℕ). a ⊕ x ⊕ z) q ∙ tidy a x n
  where
    tidy : (a x n : ℕ) → a ⊕ x ⊕ (x ⊕ n) ≡ a ⊕ n
    tidy a x n = simp xor

-- Where everything that depends on the cell grew by n, all amounts are what they were; and the other way round.
module _ (m k t i n : ℕ) (a c : Lane) (big : 1 < m) (few : k ≤ m) (ht : t < k) (hi : i < m - 1) where
  pub rows_kept : ((r x : ℕ) → r < m - 1 → x < k + 2 → c r x ≡ a r x ⊕ cond (depends m k t i r x) n 0) → (r : ℕ) → r < m - 1 → amount_h m k c r ≡ amount_h m k a r
  unfolding amount_h
  rows_kept grown r h = amount_kept _ _ _ _ _ (grown r k h (omega arith)) (H_grown m k t i n a c big few ht hi (λ r x hr hx. grown r x hr (omega arith)) r)

  pub diagonals_kept : ((r x : ℕ) → r < m - 1 → x < k + 2 → c r x ≡ a r x ⊕ cond (depends m k t i r x) n 0) → (r : ℕ) → r < m - 1 → amount_d m k c r ≡ amount_d m k a r
  unfolding amount_d
  diagonals_kept grown r h = amount_kept _ _ _ _ _ (grown r (k + 1) h (omega arith)) (D_grown m k t i n a c big few ht hi (λ r x hr hx. grown r x hr (omega arith)) r h)

  pub parity_grown : ((r x : ℕ) → r < m - 1 → x < k → c r x ≡ a r x ⊕ cond (depends m k t i r x) n 0)
      → ((r : ℕ) → r < m - 1 → (amount_h m k c r ≡ amount_h m k a r) × (amount_d m k c r ≡ amount_d m k a r))
      → (r x : ℕ) → r < m - 1 → x < k + 2 → c r x ≡ a r x ⊕ cond (depends m k t i r x) n 0
  unfolding amount_h amount_d
  parity_grown grown same r x hr hx = elim (dec_lt x k) [
    | yes low ↦ grown r x hr low
    | no high ↦ elim (ℕ_discrete x k) [
      | yes e ↦ rw e (amount_grown _ _ _ _ _ (same r hr).0 (H_grown m k t i n a c big few ht hi grown r))
      | no ne ↦ let e : x ≡ k + 1 = omega (arith, ne) in rw e (amount_grown _ _ _ _ _ (same r hr).1 (D_grown m k t i n a c big few ht hi grown r hr))
    ]
  ]

-- So that is all that is to be shown of a changed cell.
pub of_grown : (m k b t i : ℕ) (s v new : List ℕ) → 1 < m → k ≤ m → t < k → i < m - 1 → length v ≡ length s
    → ((l r x : ℕ) → l < b → r < m - 1 → x < k + 2 → lane m b v l r x ≡ lane m b s l r x ⊕ cond (depends m k t i r x) (lane m b s l i t ⊕ get_or new l 0) 0)
    → CellChanged m k b t i new s v
of_grown m k b t i s v new big few ht hi size grown = record {
  size = size;
  new = λ l hl.
      grown l i t hl hi (omega arith)
      ∙ ap (λ (y : Bool). lane m b s l i t ⊕ cond y (lane m b s l i t ⊕ get_or new l 0) 0) (depends_itself m k t i ht i ∙ eq-eqb i i refl)
      ∙ ⊕_cancel (lane m b s l i t) (get_or new l 0);
  amounts = record {
    rows = λ l r hl hr. rows_kept m k t i (lane m b s l i t ⊕ get_or new l 0) (lane m b s l) (lane m b v l) big few ht hi (λ r x hr hx. grown l r x hl hr hx) r hr;
    diagonals = λ l r hl hr. diagonals_kept m k t i (lane m b s l i t ⊕ get_or new l 0) (lane m b s l) (lane m b v l) big few ht hi (λ r x hr hx. grown l r x hl hr hx) r hr;
  };
  stays = λ l r x hl hr hx e. grown l r x hl hr hx ∙ ap (λ (y : Bool). lane m b s l r x ⊕ cond y (lane m b s l i t ⊕ get_or new l 0) 0) e ∙ ⊕_zero (lane m b s l r x);
}

-- So it is where that is known column by column: of the cell's own, H, D and the others.
module _ (m k b t i : ℕ) (s v new : List ℕ) (big : 1 < m) (few : k ≤ m) (ht : t < k) (hi : i < m - 1) where
  -- what depends on the cell grows by what it changes by
  abbrev Grown : ℕ → ℕ → ℕ → Bool → Type 0
  Grown l r x test = lane m b v l r x ≡ lane m b s l r x ⊕ cond test (lane m b s l i t ⊕ get_or new l 0) 0

  pub of_columns : length v ≡ length s
      → ((l r x : ℕ) → l < b → r < m - 1 → x < k → (x ≡ t → r ≢ i) → lane m b v l r x ≡ lane m b s l r x)
      → ((l : ℕ) → l < b → lane m b v l i t ≡ get_or new l 0)
      → ((l r : ℕ) → l < b → r < m - 1 → Grown l r k (eqb r i))
      → ((l r : ℕ) → l < b → r < m - 1 → Grown l r (k + 1) (stands_in_d m t i r))
      → CellChanged m k b t i new s v
  of_columns size others itself in_h in_d = of_grown m k b t i s v new big few ht hi size (λ l r x hl hr hx. elim (dec_lt x k) [
    | yes low ↦ by_cell (Grown l r x (depends m k t i r x)) x r t i
        (λ e d. rw (e, d) (subst (Grown l i t) (sym (depends_itself m k t i ht i ∙ eq-eqb i i refl)) (itself l hl ∙ sym (⊕_cancel (lane m b s l i t) (get_or new l 0)))))
        (λ other. subst (Grown l r x) (sym (depends_other m k t i ht r x low other)) (others l r x hl hr low other ∙ sym (⊕_zero (lane m b s l r x))))
    | no high ↦ elim (ℕ_discrete x k) [
      | yes e ↦ rw e (subst (Grown l r k) (sym (depends_h m k t i ht r)) (in_h l r hl hr))
      | no ne ↦ let e : x ≡ k + 1 = omega (arith, ne) in rw e (subst (Grown l r (k + 1)) (sym (depends_d m k t i ht r)) (in_d l r hl hr))
    ]
  ])

-- ---- what the steps leave, cell by cell

-- of another cell than that in row i of column t no byte is one of its bytes
pub apart : {m b c : ℕ} → Sized m b c → (t i l r x : ℕ) → i < m - 1 → l < b → r < m - 1 → (x ≡ t → r ≢ i)
    → t * c + i * b ≤ x * c + (r * b + l) → t * c + i * b + b ≤ x * c + (r * b + l)
apart {m} {b} {c} z t i l r x hi hl hr ne above = by_order (t * c + i * b + b ≤ x * c + (r * b + l)) x t
    (λ low. absurd (omega (arith, parts_end c low, parts_end b hr, column_is m b c z)))
    (λ high. elim (ℕ_discrete x t) [
      | yes e ↦ rw e (by_order (t * c + i * b + b ≤ t * c + (r * b + l)) r i
          (λ before. absurd (let same : x * c ≡ t * c = ap (λ (n : ℕ). n * c) e in omega (arith, parts_end b before, same)))
          (λ after. let past : i < r = omega (arith, ne e) in omega (arith, parts_end b past)))
      | no other ↦ let past : t < x = omega (arith, other) in omega (arith, parts_end c past, parts_end b hi, column_is m b c z)
    ])

module _ {m b c : ℕ} (z : Sized m b c) (k t i : ℕ) (s v new : List ℕ) (few : k ≤ m) (ht : t < k) (hi : i < m - 1) where
  -- the difference
  abbrev delta : ℕ → ℕ
  delta l = lane m b s l i t ⊕ get_or new l 0

  -- where byte l of the cell in row r of column x stands
  at_cell : (w : List ℕ) (x r l : ℕ) → get_or w (x * c + r * b + l) 0 ≡ lane m b w l r x
  at_cell w x r l = let e : x * c + r * b + l ≡ x * c + (r * b + l) = omega arith in ap (λ (n : ℕ). get_or w n 0) e ∙ sym (at_row z w x l r)

  -- ---- off the diagonal of S

  module _ (own : ℕ) (hown : own < m - 1) (at_own : back m own t ≡ i) (e : Exchanged s v (t * c + i * b) (k * c + i * b) (k * c + c + own * b) b (λ l. get_or new l 0)) where
    -- a cell that is none of the three
    kept : (l r x : ℕ) → l < b → r < m - 1 → (x ≡ t → r ≢ i) → (x ≡ k → r ≢ i) → (x ≡ k + 1 → r ≢ own) → lane m b v l r x ≡ lane m b s l r x
    kept l r x hl hr itself h d =
        at_row z v x l r
        ∙ e.others (x * c + (r * b + l)) (apart z t i l r x hi hl hr itself) (apart z k i l r x hi hl hr h)
        (λ above. let past = apart z (k + 1) own l r x hown hl hr d (omega (arith, above)) in omega (arith, past))
        ∙ sym (at_row z s x l r)

    in_h_off : (l r : ℕ) → l < b → r < m - 1 → lane m b v l r k ≡ lane m b s l r k ⊕ cond (eqb r i) (delta l) 0
    in_h_off l r hl hr = elim (ℕ_discrete r i) [
      | yes d ↦ rw d (
          sym (at_cell v k i l) ∙ e.first l hl ∙ ap₂ ◌⊕◌ (at_cell s k i l) (ap (λ (n : ℕ). n ⊕ get_or new l 0) (at_cell s t i l))
          ∙ ap (λ (y : Bool). lane m b s l i k ⊕ cond y (delta l) 0) (sym (eq-eqb i i refl)))
      | no ne ↦
          kept l r k hl hr (λ q. absurd (omega (arith, q))) (λ _. ne) (λ q. absurd (omega (arith, q)))
          ∙ sym (⊕_zero (lane m b s l r k)) ∙ ap (λ (y : Bool). lane m b s l r k ⊕ cond y (delta l) 0) (sym (ne_eqb r i ne))
    ]

    in_d_off : (l r : ℕ) → l < b → r < m - 1 → lane m b v l r (k + 1) ≡ lane m b s l r (k + 1) ⊕ cond (stands_in_d m t i r) (delta l) 0
    in_d_off l r hl hr = elim (ℕ_discrete r own) [
      | yes d ↦
          let place : (k + 1) * c + own * b + l ≡ k * c + c + own * b + l = omega arith in
          rw d (
          sym (at_cell v (k + 1) own l) ∙ ap (λ (n : ℕ). get_or v n 0) place ∙ e.second l hl
          ∙ ap₂ ◌⊕◌ (ap (λ (n : ℕ). get_or s n 0) (sym place) ∙ at_cell s (k + 1) own l) (ap (λ (n : ℕ). n ⊕ get_or new l 0) (at_cell s t i l))
          ∙ ap (λ (y : Bool). lane m b s l own (k + 1) ⊕ cond y (delta l) 0) (sym (stands own hown ∙ eq-eqb own own refl)))
      | no ne ↦
          kept l r (k + 1) hl hr (λ q. absurd (omega (arith, q))) (λ q. absurd (omega (arith, q))) (λ _. ne)
          ∙ sym (⊕_zero (lane m b s l r (k + 1))) ∙ ap (λ (y : Bool). lane m b s l r (k + 1) ⊕ cond y (delta l) 0) (sym (stands r hr ∙ ne_eqb r own ne))
    ]
      where
        stands : (r : ℕ) → r < m - 1 → stands_in_d m t i r ≡ eqb r own
        stands r hr = stands_own m t i own z.big (omega arith) (omega arith) at_own (λ q. absurd (omega (arith, q))) r (omega arith)

    pub changed_off_s : CellChanged m k b t i new s v
    changed_off_s = of_columns m k b t i s v new z.big few ht hi e.size
        (λ l r x hl hr hx ne. kept l r x hl hr ne (λ q. absurd (omega (arith, q))) (λ q. absurd (omega (arith, q))))
        (λ l hl. sym (at_cell v t i l) ∙ e.inside l hl)
        in_h_off in_d_off

  -- ---- on it, in four steps: the cell gets the new bytes added, H's cell gets the cell added, D's cells or what they are owed do, and the cell becomes the new
  -- bytes

  module _ (s₁ s₂ s₃ : List ℕ)
      (first : Put s s₁ (t * c + i * b) b (λ l. get_or s (t * c + i * b + l) 0 ⊕ get_or new (0 + l) 0))
      (second : Put s₁ s₂ (k * c + i * b) b (λ l. get_or s₁ (k * c + i * b + l) 0 ⊕ get_or s₁ (t * c + i * b + l) 0))
      (third : (p : ℕ) → p < k * c + c → get_or s₃ p 0 ≡ get_or s₂ p 0)
      (fourth : Put s₃ v (t * c + i * b) b (λ l. get_or new l 0)) (on : back m (m - 1) t ≡ i) where
    -- all cells but the one that a step sets are as they were
    but : (t : ℕ) {w u : List ℕ} {f : ℕ → ℕ} → Put w u (t * c + i * b) b f → (l r x : ℕ) → l < b → r < m - 1 → (x ≡ t → r ≢ i) → lane m b u l r x ≡ lane m b w l r x
    but t {w} {u} p l r x hl hr ne =
        at_row z u x l r
        ∙ by_order (get_or u (x * c + (r * b + l)) 0 ≡ get_or w (x * c + (r * b + l)) 0) (x * c + (r * b + l)) (t * c + i * b)
        (λ low. p.before _ low)
        (λ high. p.after _ (apart z t i l r x hi hl hr ne high))
        ∙ sym (at_row z w x l r)

    -- after the first step the cell holds the difference, and after the second too
    holds_delta : (l : ℕ) → l < b → lane m b s₁ l i t ≡ delta l
    holds_delta l hl =
        let e : 0 + l ≡ l = omega arith in
        sym (at_cell s₁ t i l) ∙ first.inside l hl ∙ ap₂ ◌⊕◌ (at_cell s t i l) (ap (λ (n : ℕ). get_or new n 0) e)

    still_delta : (l : ℕ) → l < b → get_or s₂ (t * c + i * b + l) 0 ≡ delta l
    still_delta l hl = at_cell s₂ t i l ∙ but k second l i t hl hi (λ e. absurd (omega (arith, e))) ∙ holds_delta l hl

    -- the third step writes nothing before D
    before_d : (l r x : ℕ) → l < b → r < m - 1 → x < k + 1 → lane m b s₃ l r x ≡ lane m b s₂ l r x
    before_d l r x hl hr hx =
        at_row z s₃ x l r
        ∙ third (x * c + (r * b + l)) (omega (arith, parts_end c hx, parts_end b hr, column_is m b c z))
        ∙ sym (at_row z s₂ x l r)

    itself_on : (l : ℕ) → l < b → lane m b v l i t ≡ get_or new l 0
    itself_on l hl = sym (at_cell v t i l) ∙ fourth.inside l hl

    others_on : (l r x : ℕ) → l < b → r < m - 1 → x < k → (x ≡ t → r ≢ i) → lane m b v l r x ≡ lane m b s l r x
    others_on l r x hl hr hx ne =
        but t fourth l r x hl hr ne ∙ before_d l r x hl hr (omega arith)
        ∙ but k second l r x hl hr (λ q. absurd (omega (arith, q))) ∙ but t first l r x hl hr ne

    in_h_on : (l r : ℕ) → l < b → r < m - 1 → lane m b v l r k ≡ lane m b s l r k ⊕ cond (eqb r i) (delta l) 0
    in_h_on l r hl hr = but t fourth l r k hl hr (λ q. absurd (omega (arith, q))) ∙ before_d l r k hl hr (omega arith) ∙ (elim (ℕ_discrete r i) [
      | yes d ↦ rw d (
          sym (at_cell s₂ k i l) ∙ second.inside l hl
          ∙ ap₂ ◌⊕◌ (at_cell s₁ k i l ∙ but t first l i k hl hi (λ q. absurd (omega (arith, q)))) (at_cell s₁ t i l ∙ holds_delta l hl)
          ∙ ap (λ (y : Bool). lane m b s l i k ⊕ cond y (delta l) 0) (sym (eq-eqb i i refl)))
      | no ne ↦
          but k second l r k hl hr (λ _. ne) ∙ but t first l r k hl hr (λ q. absurd (omega (arith, q)))
          ∙ sym (⊕_zero (lane m b s l r k)) ∙ ap (λ (y : Bool). lane m b s l r k ⊕ cond y (delta l) 0) (sym (ne_eqb r i ne))
    ])

    -- no step but the third writes D
    d_first : (l r : ℕ) → l < b → r < m - 1 → lane m b s₂ l r (k + 1) ≡ lane m b s l r (k + 1)
    d_first l r hl hr = but k second l r (k + 1) hl hr (λ q. absurd (omega (arith, q))) ∙ but t first l r (k + 1) hl hr (λ q. absurd (omega (arith, q)))

    d_last : (l r : ℕ) → l < b → r < m - 1 → lane m b v l r (k + 1) ≡ lane m b s₃ l r (k + 1)
    d_last l r hl hr = but t fourth l r (k + 1) hl hr (λ q. absurd (omega (arith, q)))

    -- so where the cell stands in every equation of D
    each_grown : (w p : ℕ → ℕ → ℕ) (l r : ℕ) → w r (k + 1) ≡ p r (k + 1) ⊕ delta l → w r (k + 1) ≡ p r (k + 1) ⊕ cond (stands_in_d m t i r) (delta l) 0
    each_grown w p l r e = e ∙ ap (λ (y : Bool). p r (k + 1) ⊕ cond y (delta l) 0) (sym (stands_each m t i (m - 1) z.big (omega arith) (omega (arith, z.big)) on refl r))

    pub changed_on_s : Lined (m - 1) b (k * c + c) s₂ s₃ (λ r l. get_or s₂ (k * c + c + (r * b + l)) 0 ⊕ get_or s₂ (t * c + i * b + l) 0) → CellChanged m k b t i new s v
    changed_on_s lined = of_columns m k b t i s v new z.big few ht hi (fourth.size ∙ lined.size ∙ second.size ∙ first.size) others_on itself_on in_h_on (λ l r hl hr.
        let place : (k + 1) * c + (r * b + l) ≡ k * c + c + (r * b + l) = omega arith in
        each_grown (lane m b v l) (lane m b s l) l r (
        d_last l r hl hr ∙ at_row z s₃ (k + 1) l r ∙ ap (λ (n : ℕ). get_or s₃ n 0) place ∙ lined.inside r l hr hl
        ∙ ap₂ ◌⊕◌ (ap (λ (n : ℕ). get_or s₂ n 0) (sym place) ∙ sym (at_row z s₂ (k + 1) l r) ∙ d_first l r hl hr) (still_delta l hl)))

    -- where D's cells are owed it, the third step writes nothing
    pub changed_owing : (owed debt : List ℕ) → s₃ ≡ s₂ → length owed ≡ b → Added owed debt (λ l. get_or s₂ (t * c + i * b + l) 0)
        → OncePaid m k b owed s debt v (CellChanged m k b t i new)
    changed_owing owed debt none full gathered = record {
      size = size;
      room = gathered.size;
      holds = λ p q before after.
          let itself : (l : ℕ) → l < b → lane m b s l i t ≡ lane m b p l i t = λ l hl. sym (paid_other before l i t hl hi (omega arith)) in
          of_columns m k b t i p q new z.big few ht hi (after.size ∙ size ∙ sym before.size)
          (λ l r x hl hr hx ne. paid_other after l r x hl hr (omega arith) ∙ others_on l r x hl hr hx ne ∙ sym (paid_other before l r x hl hr (omega arith)))
          (λ l hl. paid_other after l i t hl hi (omega arith) ∙ itself_on l hl)
          (λ l r hl hr.
          paid_other after l r k hl hr (omega arith) ∙ in_h_on l r hl hr
          ∙ ap₂ (λ (x y : ℕ). x ⊕ cond (eqb r i) (y ⊕ get_or new l 0) 0) (sym (paid_other before l r k hl hr (omega arith))) (itself l hl))
          (λ l r hl hr.
          each_grown (lane m b q l) (lane m b p l) l r (
          paid_d after l r hl hr ∙ ap₂ ◌⊕◌ (d_last l r hl hr ∙ ap (λ (w : List ℕ). lane m b w l r (k + 1)) none ∙ d_first l r hl hr) (owes l hl)
          ∙ sym (⊕_assoc (lane m b s l r (k + 1)) (get_or owed l 0) (delta l)) ∙ ap (λ (x : ℕ). x ⊕ delta l) (sym (paid_d before l r hl hr)))
          ∙ ap (λ (y : ℕ). lane m b p l r (k + 1) ⊕ cond (stands_in_d m t i r) (y ⊕ get_or new l 0) 0) (itself l hl));
    }
      where
        size : length v ≡ length s
        size = fourth.size ∙ ap length none ∙ second.size ∙ first.size

        owes : (l : ℕ) → l < b → get_or debt l 0 ≡ get_or owed l 0 ⊕ delta l
        owes l hl = gathered.byte l (omega arith) ∙ ap (λ (x : ℕ). get_or owed l 0 ⊕ x) (still_delta l hl)
