-- Rows and diagonals of a lane, summed column after column.
--   summed_none            over no column they are zero
--   summed_next            over one column more
--   lane_room, taken       the bytes of a column of a lane are there; and read one after another they are the column
--   turned_added           two runs add a run, turned
--   breaks_by              over all data columns, with H, and with D and S, they are the amounts that the lane's lines break by
--   rows_are               the amounts of all rows, the imaginary one too
use mathlib.Core.Path.{◌≡◌, sym, ap, ap₂, ◌∙◌, subst}
use mathlib.Core.List.{List}
use Prim.Native.Nat.{ℕ, ◌+◌, ◌*◌, ◌-◌, ◌≤◌, ◌<◌}
use native.Mathlib.Nat.{le_refl, one-mul}
use native.Mathlib.Omega.{arith}
use lib.ListN.{length, get_or, set}
use Rattle.parity.specs.Xor.{◌⊕◌}
use Rattle.parity.specs.Equations.{Lane, back}
use Rattle.parity.specs.Stripe.{lane}
use Rattle.parity.proofs.Xor.{xor}
use Rattle.parity.proofs.Sum.{sum_none}
use Rattle.parity.proofs.Candidate.{row_amount, row_amount_lem, row_amount_last}
use Rattle.cells.specs.Runs.{Added, Put}
use Rattle.cells.proofs.Parts.{parts_end, by_order}
use Rattle.cells.proofs.Puts.{put_one, put_start, put_same, put_count}
use Rattle.lines.specs.declared.Grid.{Grid}
use Rattle.lines.specs.Lines.{real, line, Sized, Laid}
use Rattle.lines.proofs.Lines.{back_lt, up_around, up_straight, real_in, real_out, cell_room}
use Rattle.lines.proofs.Cells.{at_row}
use Rattle.lines.proofs.Equations.{row_at}
use Rattle.lines.proofs.Valid.{line_more}
use Rattle.lines.proofs.Amounts.{row_amount_line, diagonal_lines}
use Rattle.locating.specs.Locating.{Summed, BreaksBy}

pub lane_room : {g : Grid} {s : List ℕ} → Laid g s → (t l i : ℕ) → t < g.k + 2 → l < g.b → i < g.m - 1 → t * g.column + l + i * g.b < length s
lane_room {g} z t l i ht hl hi =
    omega (arith, z.whole, parts_end g.column ht, cell_room g.m g.b g.column z.sized i l 1 hi (omega arith))

pub taken : {m b c : ℕ} → Sized m b c → (s : List ℕ) (t l : ℕ) {x y : List ℕ} → length x ≡ m → Put x y 0 (m - 1) (λ i. get_or s (t * c + l + i * b) 0)
    → Put x (set y (m - 1) 0) 0 m (λ i. real m (lane m b s l) i t)
taken {m} {b} {c} z s t l {x} {y} size p =
    let e : 0 + (m - 1) ≡ m - 1 = omega arith in
    put_count (subst (λ (n : ℕ). Put x (set y n 0) 0 (m - 1 + 1) f) e (put_one x y 0 (m - 1) 0 f (omega (arith, p.size, z.big)) (sym (real_out m (lane m b s l) (m - 1) t (le_refl (m - 1)))) (put_same p read))) (omega (arith, z.big))
  where
    f : ℕ → ℕ
    f i = real m (lane m b s l) i t

    read : (i : ℕ) → i < m - 1 → get_or s (t * c + l + i * b) 0 ≡ f i
    read i h =
        let e : t * c + l + i * b ≡ t * c + (i * b + l) = omega arith in
        ap (λ (n : ℕ). get_or s n 0) e ∙ sym (at_row z s t l i) ∙ sym (real_in m (lane m b s l) i t h)

pub turned_added : {w u v : List ℕ} (x : List ℕ) (t n : ℕ) → length w ≡ n → t ≤ n → Put w u t (n - t) (λ l. get_or w (t + l) 0 ⊕ get_or x (0 + l) 0)
    → Put u v 0 t (λ l. get_or u (0 + l) 0 ⊕ get_or x (n - t + l) 0) → Added w v (λ i. get_or x (back n i t) 0)
turned_added {w} {u} {v} x t n size inside p q = record {
  size = q.size ∙ p.size;
  byte = λ l h. by_order (get_or v l 0 ≡ get_or w l 0 ⊕ get_or x (back n l t) 0) l t
      (λ low.
      let e : 0 + l ≡ l = omega arith in
      let f : n - t + l ≡ l + n - t = omega arith in
      put_start q l low
      ∙ ap₂ (λ (y z : ℕ). get_or u y 0 ⊕ get_or x z 0) e (f ∙ up_around n t l low inside)
      ∙ ap (λ (y : ℕ). y ⊕ get_or x (back n l t) 0) (p.before l low))
      (λ high.
      let d : ℕ = l - t in
      let e : t + d ≡ l = omega arith in
      let f : 0 + d ≡ l - t = omega arith in
      q.after l (omega arith)
      ∙ ap (λ (y : ℕ). get_or u y 0) (sym e)
      ∙ p.inside d (omega arith)
      ∙ ap₂ (λ (y z : ℕ). get_or w y 0 ⊕ get_or x z 0) e (f ∙ up_straight n t l high (omega arith)));
}

module _ (m : ℕ) (a : Lane) where
  -- x is column t
  abbrev Column : List ℕ → ℕ → Type 0
  Column x t = (i : ℕ) → i < m → get_or x i 0 ≡ real m a i t

  line_none : (e i : ℕ) → line m a e i 0 ≡ 0
  unfolding line
  line_none e i = sum_none 0 (λ t h. absurd (omega arith))

  pub summed_none : (h d : List ℕ) → length h ≡ m → length d ≡ m → ((i : ℕ) → i < m → get_or h i 0 ≡ 0) → ((i : ℕ) → i < m → get_or d i 0 ≡ 0) → Summed m a 0 h d
  summed_none h d rows diagonals row diagonal = record {
    rows = rows;
    diagonals = diagonals;
    row = λ i l. row i l ∙ sym (line_none 0 i);
    diagonal = λ i l. diagonal i l ∙ sym (line_none 1 i);
  }

  module _ (t : ℕ) {h d : List ℕ} (p : Summed m a t h d) (x : List ℕ) (column : Column x t) where
    -- the rows, H's column too
    row_next : {v : List ℕ} → Added h v (λ l. get_or x l 0) → (i : ℕ) → i < m → get_or v i 0 ≡ line m a 0 i (t + 1)
    row_next q i l =
        q.byte i (omega (arith, p.rows))
        ∙ ap₂ ◌⊕◌ (p.row i l) (column i l ∙ ap (λ (r : ℕ). real m a r t) (sym (row_at m i t l)))
        ∙ sym (line_more m a 0 i t)

    pub summed_next : {v w : List ℕ} → length x ≡ m → Added h v (λ l. get_or x l 0) → Added d w (λ i. get_or x (back (length x) i t) 0) → Summed m a (t + 1) v w
    summed_next size q r = record {
      rows = q.size ∙ p.rows;
      diagonals = r.size ∙ p.diagonals;
      row = row_next q;
      diagonal = λ i l.
          r.byte i (omega (arith, p.diagonals))
          ∙ ap₂ ◌⊕◌ (p.diagonal i l) (ap (λ (n : ℕ). get_or x (back n i t) 0) size ∙ column (back m i t) (back_lt m i t (omega arith)) ∙ ap (λ (y : ℕ). real m a (back m i y) t) (sym (one-mul t)))
          ∙ sym (line_more m a 1 i t);
    }

module _ (m k : ℕ) (big : 1 < m) (few : k ≤ m) (a : Lane) {h d : List ℕ} (p : Summed m a k h d) (x y : List ℕ) (in_H : Column m a x k) (in_D : Column m a y (k + 1)) where
  row_end : {v : List ℕ} → Added h v (λ l. get_or x l 0) → (i : ℕ) → i < m → get_or v i 0 ≡ row_amount m k a i
  row_end q i l = row_next m a k p x in_H q i l ∙ sym (row_amount_line m k few a i l)

  diagonal_end : {w : List ℕ} → Added d w (λ l. get_or y l 0) → (i : ℕ) → i < m → get_or w i 0 ≡ line m a 1 i k ⊕ real m a i (k + 1)
  diagonal_end r i l = r.byte i (omega (arith, p.diagonals)) ∙ ap₂ ◌⊕◌ (p.diagonal i l) (in_D i l)

  pub breaks_by : {v w u : List ℕ} → Added h v (λ l. get_or x l 0) → Added d w (λ l. get_or y l 0) → Added w u (λ _. get_or w (m - 1) 0) → BreaksBy m k a v u
  breaks_by {w = w} q r o = record {
    rows = q.size ∙ p.rows;
    diagonals = o.size ∙ r.size ∙ p.diagonals;
    row = λ i l. row_end q i (omega arith) ∙ row_amount_lem m k a i l;
    last = row_end q (m - 1) (omega arith) ∙ row_amount_last m k a (m - 1) (le_refl (m - 1));
    diagonal = λ i l.
        o.byte i (omega (arith, r.size, p.diagonals))
        ∙ ap₂ ◌⊕◌ (diagonal_end r i (omega arith)) (diagonal_end r (m - 1) (omega arith) ∙ ap (λ (z : ℕ). line m a 1 (m - 1) k ⊕ z) (real_out m a (m - 1) (k + 1) (le_refl (m - 1))))
        ∙ tidy (line m a 1 i k ⊕ real m a i (k + 1)) (line m a 1 (m - 1) k)
        ∙ sym (diagonal_lines m k few a big i l);
  }
    where
      tidy : (x s : ℕ) → x ⊕ (s ⊕ 0) ≡ s ⊕ x
      tidy x s = simp xor

pub rows_are : (m k : ℕ) (a : Lane) {h d : List ℕ} → BreaksBy m k a h d → (i : ℕ) → i < m → get_or h i 0 ≡ row_amount m k a i
rows_are m k a {h} p i l = by_order (get_or h i 0 ≡ row_amount m k a i) i (m - 1)
    (λ low. p.row i low ∙ sym (row_amount_lem m k a i low))
    (λ high. let e : i ≡ m - 1 = omega arith in ap (λ (x : ℕ). get_or h x 0) e ∙ p.last ∙ sym (row_amount_last m k a i high))
