-- What each function leaves, step by step.
--   all_columns, whole_lines   what the sums ask for where they go over all data columns but u and v
--   band_last, band_cells         where the last cell of a band stands, and that the sums have room there
--   half_band, half_cells         a half is a band of all rows
--   row_left_lem, diagonal_left_lem       what is left of a line, as it is summed
--   rows_whole                    what is left of the rows of a half, which begins with row 0
--   past_end                      what stands past the end of a buffer is zero
--   by_S, last_none               what is left when S is added; row m - 1 is zero
--   by_rows, by_diagonals         some rows of one column, restored
--   begin_row_lem, both_summed        both halves summed over some columns
--   cleared, uncleared            the last cell of the first half was cleared, and that of the second was not
--   InBench                       both halves after the columns below t: in_bench_next, in_bench_end
--   last_put, last_bench, last_is   the last cell of the second half was set, and what stands there
--   parted_from, restored_anew    what a half begins with, and where a bench begins, by another name
--   data_h, data_d, h_d           two columns of these kinds
--   mixes, walked                 two data columns, mixed and then parted
use mathlib.Core.Path.{◌≡◌, refl, sym, ap, ap₂, ◌∙◌, subst}
use mathlib.Core.Logic.{◌≢◌}
use mathlib.Core.Bool.{Bool, cond}
use mathlib.Core.List.{List}
use Prim.Native.Nat.{ℕ, ◌+◌, ◌*◌, ◌-◌, ◌%◌, ◌≤◌, ◌<◌}
use native.Mathlib.Nat.{mod-eq_of_lt}
use native.Mathlib.Decide.{ℕ_discrete}
use native.Mathlib.Omega.{arith}
use lib.ListN.{length, get_or, get_or-eq_default}
use borrow.Author.Tests.{eq-eqb, ne_eqb}
use borrow.Rule.Slice.PartMut.{put_mid}
use Rattle.parity.specs.Xor.{◌⊕◌}
use Rattle.parity.specs.Sum.{sum}
use Rattle.parity.specs.Shape.{column_length}
use Rattle.parity.specs.Equations.{Lane, back, S}
use Rattle.parity.specs.Stripe.{lane, Valid}
use Rattle.parity.proofs.Xor.{⊕_cancel, zero_⊕, xor}
use Rattle.cells.specs.Runs.{Put}
use Rattle.cells.proofs.Parts.{part, parts_end}
use Rattle.lines.specs.declared.Columns.{Columns}
use Rattle.lines.specs.declared.Grid.{Grid}
use Rattle.lines.specs.Lines.{real, span, ended, Laid}
use Rattle.lines.specs.Rows.{Lined}
use Rattle.lines.proofs.Lines.{up_straight, real_in, real_out, real_same, column_is}
use Rattle.lines.proofs.Places.{window_first}
use Rattle.lines.proofs.Rows.{lined_same}
use Rattle.lines.proofs.Turned.{last_cell}
use Rattle.lines.proofs.Whole.{whole_line}
use Rattle.sums.specs.Sums.{begun, lane_of, window_of, RoomForCells, AllColumns}
use Rattle.sums.proofs.Sweeps.{begun_first, begun_next, onward, over}
use Rattle.walk.specs.Walk.{Column, Mixed, Parted, Walked}
use Rattle.restoring.specs.Restoring.{Bench, Band, SameButTwo, RowsRestored, TwoRestored}
use Rattle.restoring.specs.Left.{row_left, diagonal_left, begin_row, BothSummed}
use Rattle.restoring.proofs.Bench.{lent_at, lent_put, lent_lined, first_at, second_at, bench_now, first_set, second_set, first_added, RowsIn, rows_added, rows_restored, two_restored}
use Rattle.restoring.proofs.Lanes.{row_of_one, row_of_both, diagonal_of_both, diagonal_of_one, diagonal_and_d, d_first, d_second, total_S}

pub past_end : (w : List ℕ) {p : ℕ} (l : ℕ) → length w ≤ p → get_or w (p + l) 0 ≡ 0
past_end w {p} l h = get_or-eq_default w 0 {n = p + l} (omega arith)

module _ (g : Grid) (u v : ℕ) where
  abbrev pub all_columns : Columns
  all_columns = record { from = 0; to = g.k; u = u; v = v }

  module _ (s : List ℕ) where
    pub whole_lines : {e d : ℕ} {columns : Columns} → columns ≡ all_columns → Laid g s → e ≤ 1 → d < g.m → AllColumns g s e d columns
    whole_lines {e} {d} is laid slant shift = subst (λ (x : Columns). AllColumns g s e d x) (sym is)
        (record { laid = laid; slant = slant; shift = shift; first = refl; some = laid.some; most = omega arith })

    pub row_left_lem : {columns : Columns} (i l : ℕ) → columns ≡ all_columns → window_of g s 0 i columns l ≡ row_left g u v s i l
    row_left_lem i l is =
        let a = lane_of g s all_columns l in
        let e : g.k + 0 ≡ g.k = omega arith in
        ap (λ (x : Columns). window_of g s 0 i x l) is ∙ window_first g.m g.k a 0 i g.k ∙ ap (λ (h : ℕ). ended g.m a 0 i h g.k) e

    pub diagonal_left_lem : {columns : Columns} (i l : ℕ) → columns ≡ all_columns → window_of g s 1 i columns l ≡ diagonal_left g u v s i l
    diagonal_left_lem i l is = ap (λ (x : Columns). window_of g s 1 i x l) is ∙ window_first g.m g.k (lane_of g s all_columns l) 1 i g.k

    pub rows_whole : {at : ℕ} {w o : List ℕ} → Lined (g.m - 1) g.b at w o (λ r l. row_left g u v s ((r + 0) % g.m) l) → Lined (g.m - 1) g.b at w o (row_left g u v s)
    rows_whole p = lined_same p (λ r l hr hl. ap (λ (i : ℕ). row_left g u v s i l) (whole_line (omega arith)))

-- ---- a band of rows

module _ {g : Grid} {s : List ℕ} {p n : ℕ} (z : Band g s p n) where
  pub band_last : p ≡ (n - 1) * g.b + g.b
  band_last = let e : n - 1 + 1 ≡ n = omega (arith, z.some) in omega (arith, z.room, ap (λ (x : ℕ). x * g.b) e)

  pub band_cells : {q : ℕ} → q ≡ p → RoomForCells g q n ((n - 1) * g.b)
  band_cells same = record {
    before = omega (arith, band_last, z.room);
    room = omega (arith, band_last);
    short = λ h.
        let e : n - 1 ≡ g.m - 2 = omega (arith, z.short h) in
        (z.short h, ap (λ (x : ℕ). x * g.b) e, same ∙ z.room ∙ ap (λ (x : ℕ). x * g.b) (z.short h) ∙ sym (column_is g.m g.b g.column z.laid.sized));
  }

module _ {g : Grid} {s : List ℕ} {p : ℕ} (laid : Laid g s) (whole : p ≡ g.column) where
  pub half_band : Band g s p (g.m - 1)
  half_band = record { laid = laid; some = omega (arith, laid.sized.big); room = whole ∙ column_is g.m g.b g.column laid.sized; short = λ _. refl }

  pub half_cells : RoomForCells g p (g.m - 1) ((g.m - 2) * g.b)
  half_cells =
      let e = last_cell laid.sized 0 in
      record { before = omega (arith, column_is g.m g.b g.column laid.sized); room = omega arith; short = λ _. (refl, refl, whole) }

-- ---- both halves, over some columns

module _ (g : Grid) (columns : Columns) (r : ℕ) where
  begin_row_first : columns.from ≡ 0 → begin_row g columns r ≡ g.m - 2
  unfolding begin_row
  begin_row_first h = ap (λ (c : Bool). cond c (g.m - 2) r) (eq-eqb columns.from 0 h)

  begin_row_next : columns.from ≢ 0 → begin_row g columns r ≡ r
  unfolding begin_row
  begin_row_next h = ap (λ (c : Bool). cond c (g.m - 2) r) (ne_eqb columns.from 0 h)

  -- what a cell of a column begins with, as the row that it begins with
  pub begin_row_lem : (half : List ℕ) (f : ℕ → ℕ) (l : ℕ) → ((i : ℕ) → i < g.m - 1 → get_or half (i * g.b + l) 0 ≡ f i) → 1 < g.m → r < g.m - 1
      → begun columns half ((g.m - 2) * g.b) (r * g.b) l ≡ f (begin_row g columns r)
  begin_row_lem half f l so big low = elim (ℕ_discrete columns.from 0) [
    | yes h ↦ begun_first columns ((g.m - 2) * g.b) (r * g.b) l half h ∙ so (g.m - 2) (omega arith) ∙ ap f (sym (begin_row_first h))
    | no h ↦ begun_next columns ((g.m - 2) * g.b) (r * g.b) l half h ∙ so r low ∙ ap f (sym (begin_row_next h))
  ]

pub both_summed : (g : Grid) (s : List ℕ) (d : ℕ) (columns : Columns) (w y y' : List ℕ) → Bench g s (length w)
    → Lined (g.m - 1) g.b 0 (part w 0 g.column) y (λ r l. begun columns (part w 0 g.column) ((g.m - 2) * g.b) (r * g.b) l ⊕ window_of g s 0 ((r + 0) % g.m) columns l)
    → Lined (g.m - 1) g.b 0 (part (put_mid 0 (g.column - 0) w y) g.column (2 * g.column)) y'
    (λ r l. begun columns (part (put_mid 0 (g.column - 0) w y) g.column (2 * g.column)) ((g.m - 2) * g.b) (r * g.b) l ⊕ window_of g s 1 ((r + d) % g.m) columns l)
    → BothSummed g s d columns w (put_mid g.column (2 * g.column - g.column) (put_mid 0 (g.column - 0) w y) y')
both_summed g s d columns w y y' ready p q = record {
  size = halves.size;
  first = λ r l hr hl.
      halves.first r l hr hl
      ∙ ap₂ ◌⊕◌
      (begin_row_lem g columns r (part w 0 c) (λ i. lane m b w l i 0) l (λ i hi. lent_at w y 0 c (omega arith) (omega (arith, ready.bench)) (i * b + l) (omega (arith, room, parts_end b hi)) ∙ sym (first_at m b w i l)) big hr)
      (ap (λ (i : ℕ). window_of g s 0 i columns l) (whole_line (omega arith)));
  second = λ r l hr hl.
      halves.second r l hr hl
      ∙ ap (λ (x : ℕ). x ⊕ window_of g s 1 ((r + d) % m) columns l)
      (begin_row_lem g columns r (part w₁ c (2 * c)) (λ i. lane m b w l i 1) l (λ i hi.
      lent_at w₁ y' c (2 * c) (omega arith) (omega (arith, size)) (i * b + l) (omega (arith, room, parts_end b hi)) ∙ sym (second_at m b c w₁ i l column) ∙ one.second i l hi hl) big hr);
}
  where
    m : ℕ
    m = g.m

    b : ℕ
    b = g.b

    c : ℕ
    c = g.column

    w₁ : List ℕ
    w₁ = put_mid 0 (c - 0) w y

    room : c ≡ (m - 1) * b
    room = column_is m b c ready.laid.sized

    column : c ≡ column_length m b
    column = ready.laid.sized.column

    big : 1 < m
    big = ready.laid.sized.big

    whole : length w ≡ 2 * column_length m b
    whole = omega (arith, ready.bench, column)

    first : Lined (m - 1) b 0 w w₁ (λ r l. begun columns (part w 0 c) ((m - 2) * b) (r * b) l ⊕ window_of g s 0 ((r + 0) % m) columns l)
    first = lent_lined w y 0 c (omega arith) (omega (arith, ready.bench)) (omega (arith, room)) p

    size : length w₁ ≡ 2 * c
    size = first.size ∙ ready.bench

    one : Parted m b w₁ (λ r l. begun columns (part w 0 c) ((m - 2) * b) (r * b) l ⊕ window_of g s 0 ((r + 0) % m) columns l) (λ i l. lane m b w l i 1)
    one = first_set m b (bench_now m b w whole) first

    halves : Parted m b (put_mid c (2 * c - c) w₁ y') (λ r l. begun columns (part w 0 c) ((m - 2) * b) (r * b) l ⊕ window_of g s 0 ((r + 0) % m) columns l)
        (λ r l. begun columns (part w₁ c (2 * c)) ((m - 2) * b) (r * b) l ⊕ window_of g s 1 ((r + d) % m) columns l)
    halves = second_set m b column one (lent_lined w₁ y' c (2 * c) (omega arith) (omega (arith, size)) (omega (arith, room)) q)

-- the last cell of the first half was cleared
module _ {g : Grid} {s w w₁ : List ℕ} (ready : Bench g s (length w)) (p : Put w w₁ ((g.m - 2) * g.b) (g.column - (g.m - 2) * g.b) (λ l. 0)) where
  pub cleared : (l : ℕ) → l < g.b → lane g.m g.b w₁ l (g.m - 2) 0 ≡ 0
  cleared l h =
      let e : 0 + ((g.m - 2) * g.b + l) ≡ (g.m - 2) * g.b + l = omega arith in
      first_at g.m g.b w₁ (g.m - 2) l ∙ ap (λ (x : ℕ). get_or w₁ x 0) e ∙ p.inside l (omega (arith, last_cell ready.laid.sized 0))

  pub uncleared : (l : ℕ) → lane g.m g.b w₁ l (g.m - 2) 1 ≡ lane g.m g.b w l (g.m - 2) 1
  uncleared l =
      let c = g.column in
      let column = ready.laid.sized.column in
      second_at g.m g.b c w₁ (g.m - 2) l column ∙ p.after (c + ((g.m - 2) * g.b + l)) (omega (arith, last_cell ready.laid.sized 0)) ∙ sym (second_at g.m g.b c w (g.m - 2) l column)

module _ (g : Grid) (s : List ℕ) (d u v : ℕ) (w : List ℕ) where
  pub record InBench (o : List ℕ) (t : ℕ) : Type 0 where
    pub none : t ≡ 0 → o ≡ w
    pub some : t ≢ 0 → Parted g.m g.b o
        (λ r l. lane g.m g.b w l (g.m - 2) 0 ⊕ window_of g s 0 r (over g s 0 u v 0 t) l)
        (λ r l. lane g.m g.b w l (g.m - 2) 1 ⊕ window_of g s 1 ((r + d) % g.m) (over g s 1 u v 0 t) l)
    pub size : length o ≡ length w

  pub in_bench_next : (o q : List ℕ) (t n : ℕ) → t < n → length w ≡ 2 * column_length g.m g.b → InBench o t → BothSummed g s d (record { from = t; to = n; u = u; v = v }) o q → InBench q n
  in_bench_next o q t n h whole p f = record {
    none = λ z. absurd (omega arith);
    some = λ _. elim (ℕ_discrete t 0) [
      | yes z ↦ record {
        size = f.size;
        first = λ r l hr hl. f.first r l hr hl ∙ ap₂ ◌⊕◌ (start r l 0 z) (ap (λ (x : ℕ). window_of g s 0 r (over g s 0 u v x n) l) z);
        second = λ r l hr hl. f.second r l hr hl ∙ ap₂ ◌⊕◌ (start r l 1 z) (ap (λ (x : ℕ). window_of g s 1 ((r + d) % g.m) (over g s 1 u v x n) l) z);
      }
      | no z ↦
          let a = p.some z in record {
            size = f.size;
            first = λ r l hr hl. onward g s 0 u v (lane g.m g.b w l (g.m - 2) 0) r t n l _ z (a.first r l hr hl) (f.first r l hr hl ∙ going r l 0 _ z);
            second = λ r l hr hl. onward g s 1 u v (lane g.m g.b w l (g.m - 2) 1) ((r + d) % g.m) t n l _ z (a.second r l hr hl) (f.second r l hr hl ∙ going r l 1 _ z);
          }
    ];
    size = f.size ∙ sym whole;
  }
    where
      columns : Columns
      columns = record { from = t; to = n; u = u; v = v }

      start : (r l x : ℕ) → t ≡ 0 → lane g.m g.b o l (begin_row g columns r) x ≡ lane g.m g.b w l (g.m - 2) x
      start r l x z = ap (λ (i : ℕ). lane g.m g.b o l i x) (begin_row_first g columns r z) ∙ ap (λ (y : List ℕ). lane g.m g.b y l (g.m - 2) x) (p.none z)

      going : (r l x y : ℕ) → t ≢ 0 → lane g.m g.b o l (begin_row g columns r) x ⊕ y ≡ lane g.m g.b o l r x ⊕ y
      going r l x y z = ap (λ (i : ℕ). lane g.m g.b o l i x ⊕ y) (begin_row_next g columns r z)

  pub in_bench_end : (o : List ℕ) (t : ℕ) (first : ℕ → ℕ) → t ≡ g.k → 1 ≤ g.k → ((l : ℕ) → l < g.b → lane g.m g.b w l (g.m - 2) 0 ≡ 0)
      → ((l : ℕ) → lane g.m g.b w l (g.m - 2) 1 ≡ first l) → InBench o t
      → Parted g.m g.b o (row_left g u v s) (λ r l. first l ⊕ diagonal_left g u v s ((r + d) % g.m) l)
  in_bench_end o t first e some clear kept p =
      let a = p.some (λ z. absurd (omega arith)) in
      let is : over g s 0 u v 0 t ≡ all_columns g u v = ap (λ (x : ℕ). over g s 0 u v 0 x) e in
      record {
        size = a.size;
        first = λ r l hr hl. a.first r l hr hl ∙ ap₂ ◌⊕◌ (clear l hl) (row_left_lem g u v s r l is) ∙ zero_⊕ (row_left g u v s r l);
        second = λ r l hr hl. a.second r l hr hl ∙ ap₂ ◌⊕◌ (kept l) (diagonal_left_lem g u v s ((r + d) % g.m) l is);
      }

-- ---- the second half, lent so that its last cell could be set

module _ (g : Grid) (s w y : List ℕ) (ready : Bench g s (length w)) {f : ℕ → ℕ} (p : Put (part w g.column (2 * g.column)) y ((g.m - 2) * g.b) g.b f) where
  pub last_put : Put w (put_mid g.column (2 * g.column - g.column) w y) (g.column + (g.m - 2) * g.b) g.b f
  last_put = lent_put w y g.column (2 * g.column) (omega arith) (omega (arith, ready.bench)) (omega (arith, last_cell ready.laid.sized 0)) p

  pub last_bench : Bench g s (length (put_mid g.column (2 * g.column - g.column) w y))
  last_bench = record { laid = ready.laid; bench = last_put.size ∙ ready.bench }

  pub last_is : (l : ℕ) → l < g.b → lane g.m g.b (put_mid g.column (2 * g.column - g.column) w y) l (g.m - 2) 1 ≡ f l
  last_is l h =
      let z = put_mid g.column (2 * g.column - g.column) w y in
      let e : g.column + ((g.m - 2) * g.b + l) ≡ g.column + (g.m - 2) * g.b + l = omega arith in
      second_at g.m g.b g.column z (g.m - 2) l ready.laid.sized.column ∙ ap (λ (x : ℕ). get_or z x 0) e ∙ last_put.inside l h

-- the second half begins with that
pub parted_from : {m b : ℕ} {o : List ℕ} {f : Column} (g h h' : Column) → Parted m b o f (λ r l. h r l ⊕ g r l) → ((r l : ℕ) → r < m - 1 → l < b → h r l ≡ h' r l) → Parted m b o f (λ r l. h' r l ⊕ g r l)
parted_from g h h' p so = record { size = p.size; first = p.first; second = λ r l hr hl. p.second r l hr hl ∙ ap (λ (x : ℕ). x ⊕ g r l) (so r l hr hl) }

-- restored to a bench of which nothing was asked
pub restored_anew : {m k b u v : ℕ} {s w w₁ o : List ℕ} → length w₁ ≡ length w → TwoRestored m k b u v s w₁ o → TwoRestored m k b u v s w o
restored_anew e p = record { size = p.size ∙ e; both = p.both }

-- what a diagonal has beside S is left when S is added
by_S : (z x : ℕ) → z ⊕ 0 ⊕ (z ⊕ x) ≡ x
by_S z x = simp xor

last_none : (m : ℕ) (a : Lane) (t : ℕ) → real m a (m - 1) t ≡ 0
last_none m a t = real_out m a (m - 1) t (omega arith)

-- ---- one column

module _ (g : Grid) (s w : List ℕ) (laid : Laid g s) (u first n : ℕ) (rows : first + n ≤ g.m - 1) where
  -- no column has number 129
  no_column : g.k + 2 ≤ 129
  no_column = omega (arith, laid.few, laid.sized.few)

  -- the line of cell i
  line_of : (i : ℕ) → i < n → (i + first) % g.m ≡ first + i
  line_of i h = let e : i + first ≡ first + i = omega arith in ap (λ (x : ℕ). x % g.m) e ∙ mod-eq_of_lt (omega arith)

  pub by_rows : {o : List ℕ} → u ≤ g.k → Lined n g.b 0 w o (λ r l. row_left g u 129 s ((r + first) % g.m) l) → RowsRestored g.m g.k g.b u first n s w o
  by_rows low p =
      let m = g.m in
      let b = g.b in
      rows_restored m g.k b p (λ r valid same l i hl hi.
      ap (λ (j : ℕ). row_left g u 129 s j l) (line_of i hi)
      ∙ row_of_one m g.k laid.sized.big laid.few (lane m b s l) (lane m b r l) (valid.lanes l hl) u 129 (λ e. absurd (omega (arith, no_column)))
      (λ x t hx ht ne _. same l x t hl hx ht ne) low (omega (arith, no_column)) (first + i) (omega arith))

  pub by_diagonals : {o : List ℕ} → u ≡ g.k + 1
      → Lined n g.b 0 w o (λ r l. diagonal_left g u 129 s (g.m - 1) l ⊕ diagonal_left g u 129 s ((r + first) % g.m) l) → RowsRestored g.m g.k g.b u first n s w o
  by_diagonals is p =
      let m = g.m in
      let k = g.k in
      let b = g.b in
      rows_restored m k b p (λ r valid same l i hl hi.
      let a = lane m b r l in
      let d : (i : ℕ) → i < m → diagonal_left g u 129 s i l ≡ S m k a ⊕ real m a i (k + 1) =
      d_first m k laid.sized.big laid.few (lane m b s l) a (valid.lanes l hl) u 129 (λ e. absurd (omega (arith, no_column)))
      (λ x t hx ht ne _. same l x t hl hx ht ne) is (omega (arith, no_column)) in
      ap₂ ◌⊕◌ (d (m - 1) (omega arith) ∙ ap (λ (x : ℕ). S m k a ⊕ x) (last_none m a (k + 1)))
      (ap (λ (j : ℕ). diagonal_left g u 129 s j l) (line_of i hi) ∙ d (first + i) (omega arith) ∙ ap (λ (x : ℕ). S m k a ⊕ x) (real_in m a (first + i) (k + 1) (omega arith)))
      ∙ by_S (S m k a) (a (first + i) (k + 1))
      ∙ ap (a (first + i)) (sym is))

-- ---- two columns

module _ (g : Grid) (s w : List ℕ) (ready : Bench g s (length w)) where
  abbrev m : ℕ
  m = g.m

  abbrev k : ℕ
  k = g.k

  abbrev b : ℕ
  b = g.b

  pub whole : length w ≡ 2 * column_length m b
  whole = omega (arith, ready.bench, ready.laid.sized.column)

  column : g.column ≡ column_length m b
  column = ready.laid.sized.column

  big : 1 < m
  big = ready.laid.sized.big

  few : k ≤ m
  few = ready.laid.few

  -- ---- H and D

  pub h_d : {o : List ℕ} → Parted m b o (row_left g k (k + 1) s) (λ r l. diagonal_left g k (k + 1) s (m - 1) l ⊕ diagonal_left g k (k + 1) s ((r + 0) % m) l) → TwoRestored m k b k (k + 1) s w o
  h_d q = two_restored m k b whole q (λ r valid same l i hl hi.
      let a = lane m b r l in
      let agree : (x t : ℕ) → x < m - 1 → t < k + 2 → t ≢ k → t ≢ k + 1 → lane m b s l x t ≡ a x t = λ x t hx ht. same l x t hl hx ht in
      let ne : k ≢ k + 1 = λ e. absurd (omega arith) in
      let d : (i : ℕ) → i < m → diagonal_left g k (k + 1) s i l ≡ S m k a ⊕ real m a i (k + 1) =
      d_second m k big few (lane m b s l) a (valid.lanes l hl) k (k + 1) ne agree (omega arith) (omega arith) in (
        row_of_one m k big few (lane m b s l) a (valid.lanes l hl) k (k + 1) ne agree (omega arith) (omega arith) i hi,
        ap₂ ◌⊕◌ (d (m - 1) (omega arith) ∙ ap (λ (x : ℕ). S m k a ⊕ x) (last_none m a (k + 1)))
            (ap (λ (j : ℕ). diagonal_left g k (k + 1) s j l) (whole_line (omega arith)) ∙ d i (omega arith) ∙ ap (λ (x : ℕ). S m k a ⊕ x) (real_in m a i (k + 1) hi))
            ∙ by_S (S m k a) (a i (k + 1)),
      ))

  -- ---- a data column and H

  pub data_h : (u e : ℕ) {w₁ w₂ o : List ℕ} → u < k → e ≡ (m - 1 + u) % m
      → Lined (m - 1) b 0 w w₁ (λ r l. diagonal_left g u k s e l ⊕ diagonal_left g u k s ((r + u) % m) l)
      → Lined (m - 1) b g.column w₁ w₂ (λ r l. row_left g u k s ((r + 0) % m) l) → Put w₂ o g.column g.column (λ l. get_or w₂ (g.column + l) 0 ⊕ get_or w₂ (0 + l) 0) → TwoRestored m k b u k s w o
  data_h u e low is q p f =
      two_restored m k b whole (first_added m b column (second_set m b column (first_set m b (bench_now m b w whole) q) (rows_whole g u k s p)) f) (λ r valid same l i hl hi.
      let a = lane m b r l in
      let agree : (x t : ℕ) → x < m - 1 → t < k + 2 → t ≢ u → t ≢ k → lane m b s l x t ≡ a x t = λ x t hx ht. same l x t hl hx ht in
      let ne : u ≢ k = λ e. absurd (omega arith) in
      let d : (r : ℕ) → r < m → diagonal_left g u k s ((r + u) % m) l ≡ S m k a ⊕ real m a r u =
      diagonal_of_one m k big few (lane m b s l) a (valid.lanes l hl) u k ne agree low (omega arith) in
      let there : diagonal_left g u k s e l ≡ S m k a ⊕ 0 =
      ap (λ (j : ℕ). diagonal_left g u k s j l) is ∙ d (m - 1) (omega arith) ∙ ap (λ (x : ℕ). S m k a ⊕ x) (last_none m a u) in
      let first : diagonal_left g u k s e l ⊕ diagonal_left g u k s ((i + u) % m) l ≡ a i u =
      ap₂ ◌⊕◌ there (d i (omega arith) ∙ ap (λ (x : ℕ). S m k a ⊕ x) (real_in m a i u hi)) ∙ by_S (S m k a) (a i u) in (
        first,
        ap₂ ◌⊕◌ (row_of_both m k big few (lane m b s l) a (valid.lanes l hl) u k ne agree (omega arith) (omega arith) i hi) first ∙ sums (a i u) (a i k),
      ))
    where
      sums : (x y : ℕ) → x ⊕ y ⊕ x ≡ y
      sums x y = simp xor

  -- ---- a data column and D

  module _ (u : ℕ) (low : u < k) where
    abbrev F : Column
    F = row_left g u (k + 1) s

    abbrev E : Column
    E = diagonal_left g u (k + 1) s

    -- column u's cell on diagonal m - 1
    abbrev crossing : ℕ → ℕ
    crossing l = real m (λ r t. F r l) (m - 1 - u) 0

    pub data_d : {w₁ w₂ w₃ w₄ o : List ℕ} → Lined (m - 1) b 0 w w₁ (λ r l. F ((r + 0) % m) l) → Put w₁ w₂ (g.column + (m - 2) * b) b (E (m - 1))
        → Put w₂ w₃ (g.column + (m - 2) * b) b (λ l. get_or w₂ (g.column + (m - 2) * b + l) 0 ⊕ real m (lane m b w₂ l) (m - 1 - u) 0)
        → Lined (m - 1) b g.column w₃ w₄ (λ r l. get_or w₃ (g.column + (m - 2) * b + l) 0 ⊕ E ((r + 0) % m) l)
        → RowsIn m b g.column (λ i. back m i u) w₄ o → TwoRestored m k b u (k + 1) s w o
    data_d {w₁} {w₂} {w₃} {w₄} p q c f t = two_restored m k b whole (rows_added m b column (λ i. back m i u) (second_set m b column third f) t) (λ r valid same l i hl hi.
        let a = lane m b r l in
        let agree : (x t : ℕ) → x < m - 1 → t < k + 2 → t ≢ u → t ≢ k + 1 → lane m b s l x t ≡ a x t = λ x t hx ht. same l x t hl hx ht in
        let ne : u ≢ k + 1 = λ e. absurd (omega arith) in
        let first : (x : ℕ) → x < m - 1 → F x l ≡ a x u = row_of_one m k big few (lane m b s l) a (valid.lanes l hl) u (k + 1) ne agree (omega arith) (omega arith) in
        let d : (i : ℕ) → i < m → E i l ≡ S m k a ⊕ (real m a (back m i u) u ⊕ real m a i (k + 1)) =
        diagonal_and_d m k big few (lane m b s l) a (valid.lanes l hl) u (k + 1) ne agree low (omega arith) in
        let there : crossing l ≡ real m a (back m (m - 1) u) u =
        real_same m (λ r t. F r l) a (m - 1 - u) (λ h. first (m - 1 - u) h) ∙ ap (λ (j : ℕ). real m a j u) (up_straight m u (m - 1) (omega (arith, few)) (omega arith)) in (
          first i hi,
          ap₂ ◌⊕◌
              (ap₂ ◌⊕◌
              (c.inside l hl
              ∙ ap₂ ◌⊕◌
              (q.inside l hl ∙ d (m - 1) (omega arith) ∙ ap (λ (x : ℕ). S m k a ⊕ (real m a (back m (m - 1) u) u ⊕ x)) (last_none m a (k + 1)))
              (real_same m (lane m b w₂ l) (λ r t. F r l) (m - 1 - u) (λ h. second.first (m - 1 - u) l h hl) ∙ there))
              (ap (λ (j : ℕ). E j l) (whole_line (omega arith)) ∙ d i (omega arith) ∙ ap (λ (x : ℕ). S m k a ⊕ (real m a (back m i u) u ⊕ x)) (real_in m a i (k + 1) hi)))
              (real_same m (λ r t. F r l) a (back m i u) (λ h. first (back m i u) h))
              ∙ left (S m k a) (real m a (back m (m - 1) u) u) (real m a (back m i u) u) (a i (k + 1)),
        ))
      where
        left : (x y z t : ℕ) → x ⊕ (y ⊕ 0) ⊕ y ⊕ (x ⊕ (z ⊕ t)) ⊕ z ≡ t
        left x y z t = simp xor

        -- a cell of the second half was set, and the first half is as it was
        beside : {x y : List ℕ} {h : ℕ → ℕ} → Put x y (g.column + (m - 2) * b) b h → (i l : ℕ) → i < m - 1 → l < b → lane m b y l i 0 ≡ lane m b x l i 0
        beside {x} {y} z i l hi hl =
            first_at m b y i l ∙ z.before (0 + (i * b + l)) (omega (arith, column_is m b g.column ready.laid.sized, parts_end b hi)) ∙ sym (first_at m b x i l)

        Second : List ℕ → Column
        Second x i l = lane m b x l i 1

        second : Parted m b w₂ F (Second w₂)
        second =
            let z = first_set m b (bench_now m b w whole) (rows_whole g u (k + 1) s p) in
            record { size = q.size ∙ z.size; first = λ i l hi hl. beside q i l hi hl ∙ z.first i l hi hl; second = λ i l hi hl. refl }

        third : Parted m b w₃ F (Second w₃)
        third = record { size = c.size ∙ second.size; first = λ i l hi hl. beside c i l hi hl ∙ second.first i l hi hl; second = λ i l hi hl. refl }

  -- ---- two data columns

  module _ (u v : ℕ) (order : u < v) (top : v < k) where
    pub walked : {w₁ w₂ : List ℕ} → m % 2 ≡ 1
        → Parted m b w₁ (row_left g u v s) (λ r l. sum (m - 1) (λ i. span m (lane m b s l) 0 i k (k + 2)) ⊕ diagonal_left g u v s ((r + v) % m) l)
        → Walked m b (v - u) w₁ w₂ → TwoRestored m k b u v s w w₂
    walked {w₁} odd bench q = record {
      size = q.size ∙ bench.size ∙ sym whole;
      both = λ r valid same l i hl hi.
          let o = q.parts _ _ (mixed r valid same) in
          (o.first i l hi hl ∙ real_in m (lane m b r l) i u hi, o.second i l hi hl ∙ real_in m (lane m b r l) i v hi);
    }
      where
        mixed : (r : List ℕ) → Valid m k b r → SameButTwo m k b u v s r → Mixed m b (v - u) w₁ (λ i l. real m (lane m b r l) i u) (λ i l. real m (lane m b r l) i v)
        mixed r valid agrees = record {
          last = λ l hl. last_none m (lane m b r l) u;
          first = λ i l hi hl.
              let a = lane m b r l in
              bench.first i l hi hl
              ∙ row_of_both m k big few (lane m b s l) a (valid.lanes l hl) u v (λ z. absurd (omega arith)) (λ x t hx ht. agrees l x t hl hx ht) (omega arith) (omega arith) i hi
              ∙ ap₂ ◌⊕◌ (sym (real_in m a i u hi)) (sym (real_in m a i v hi));
          second = λ i l hi hl.
              let a = lane m b r l in
              let agree : (x t : ℕ) → x < m - 1 → t < k + 2 → t ≢ u → t ≢ v → lane m b s l x t ≡ a x t = λ x t hx ht. agrees l x t hl hx ht in
              let ne : u ≢ v = λ z. absurd (omega arith) in
              bench.second i l hi hl
              ∙ ap₂ ◌⊕◌
              (total_S m k big few (lane m b s l) a (valid.lanes l hl) u v ne agree (omega arith) top odd)
              (diagonal_of_both m k big few (lane m b s l) a (valid.lanes l hl) u v ne agree order top i hi)
              ∙ ⊕_cancel (S m k a) (real m a ((i + (v - u)) % m) u ⊕ real m a i v);
        }
