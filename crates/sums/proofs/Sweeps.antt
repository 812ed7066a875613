-- Lines of a stripe s summed over some of its columns, and then over the next.
--   begun_at, begun_first, begun_next, begun_same   what a cell begins with, by case, and in a buffer that has the same bytes there
--   begun_room                  room where a cell begins
--   all_of                      columns that begin with column 0, by their end
--   line_next                   the line of the next row
--   cells_next                  one more cell of a column filled
--   Swept                       to each cell r of a column, line r + d was added: swept_none over no columns, swept_more over one more
--   repeated                    a column cleared but for its last cell, and that one spread
--   InCells                     the first cells after the columns below t: in_cells_next
--   InCell                      the same of one cell: in_cell_next
--   over, over_join, onward     a line over some columns, and then over the next
use mathlib.Core.Path.{◌≡◌, sym, ap, ap₂, ◌∙◌, subst}
use mathlib.Core.Logic.{◌≢◌}
use mathlib.Core.Bool.{Bool, cond}
use mathlib.Core.List.{List}
use Prim.Native.Nat.{ℕ, ◌+◌, ◌-◌, ◌*◌, ◌%◌, ◌≤◌, ◌<◌}
use native.Mathlib.Nat.{mod-add-mod, mul-le-mul_right}
use native.Mathlib.Decide.{ℕ_discrete}
use native.Mathlib.Omega.{arith}
use lib.Dec.{eqb}
use lib.ListN.{length, get_or}
use borrow.Author.Tests.{eq-eqb, ne_eqb}
use Rattle.parity.specs.Xor.{◌⊕◌}
use Rattle.parity.proofs.Xor.{zero_⊕}
use Rattle.cells.specs.Runs.{Put}
use Rattle.cells.proofs.Parts.{by_order, parts_end}
use Rattle.cells.proofs.Puts.{put_same}
use Rattle.lines.specs.declared.Columns.{Columns}
use Rattle.lines.specs.declared.Grid.{Grid}
use Rattle.lines.specs.Lines.{Sized}
use Rattle.lines.specs.Rows.{Lined, Room}
use Rattle.lines.proofs.Lines.{span_none, span_more}
use Rattle.lines.proofs.Places.{window_join}
use Rattle.lines.proofs.Rows.{lined_more, lined_same, grown_none, grown_both, Grown, plus_both}
use Rattle.sums.specs.Sums.{begun, lane_of, window_of, span_of, cell_of}

-- ---- what a cell begins with

module _ (columns : Columns) (seed to l : ℕ) where
  pub begun_at : {p : ℕ} (w : List ℕ) → p ≡ cond (eqb columns.from 0) seed to → get_or w (p + l) 0 ≡ begun columns w seed to l
  unfolding begun
  begun_at w e = ap (λ (x : ℕ). get_or w (x + l) 0) e

  pub begun_first : (w : List ℕ) → columns.from ≡ 0 → begun columns w seed to l ≡ get_or w (seed + l) 0
  unfolding begun
  begun_first w h = ap (λ (c : Bool). get_or w (cond c seed to + l) 0) (eq-eqb columns.from 0 h)

  pub begun_next : (w : List ℕ) → columns.from ≢ 0 → begun columns w seed to l ≡ get_or w (to + l) 0
  unfolding begun
  begun_next w h = ap (λ (c : Bool). get_or w (cond c seed to + l) 0) (ne_eqb columns.from 0 h)

  pub begun_same : (w v : List ℕ) → get_or w (seed + l) 0 ≡ get_or v (seed + l) 0 → get_or w (to + l) 0 ≡ get_or v (to + l) 0 → begun columns w seed to l ≡ begun columns v seed to l
  begun_same w v p q = elim (ℕ_discrete columns.from 0) [
    | yes h ↦ begun_first w h ∙ p ∙ sym (begun_first v h)
    | no h ↦ begun_next w h ∙ q ∙ sym (begun_next v h)
  ]

-- the room of a cell that begins there, and in a buffer as long
pub begun_room : {n b seed to p : ℕ} (columns : Columns) → Room n b seed to → p ≡ cond (eqb columns.from 0) seed to → Room n b p to
begun_room {n} {b} {seed} {to} columns z e = subst (λ (x : ℕ). Room n b x to) (sym e) (elim (ℕ_discrete columns.from 0) [
  | yes h ↦ subst (λ (c : Bool). Room n b (cond c seed to) to) (sym (eq-eqb columns.from 0 h)) z
  | no h ↦ subst (λ (c : Bool). Room n b (cond c seed to) to) (sym (ne_eqb columns.from 0 h)) (record {
    inside = z.inside;
    later = omega arith;
    near = omega (arith, z.inside);
    whole = λ _. z.inside;
  })
])

-- columns that begin with column 0, by their end
pub all_of : (columns : Columns) {t : ℕ} → columns.from ≡ 0 → t ≡ columns.to → ◌≡◌ {A = Columns} (record { from = 0; to = t; u = columns.u; v = columns.v }) columns
all_of columns first e = ap₂ (λ (x y : ℕ). record { from = x; to = y; u = columns.u; v = columns.v }) (sym first) e

-- ---- lines

pub line_next : (m r d : ℕ) → ((r + d) % m + 1) % m ≡ (r + 1 + d) % m
line_next m r d = let e : r + d + 1 ≡ r + 1 + d = omega arith in mod-add-mod (r + d) m 1 ∙ ap (λ (x : ℕ). x % m) e

-- ---- cell by cell

pub cells_next : (columns : Columns) (b last r : ℕ) (w u v : List ℕ) (f : ℕ → ℕ → ℕ) → r * b ≤ last → Lined r b 0 w u (λ r l. begun columns w last (r * b) l ⊕ f r l)
    → Put u v (r * b) b (λ l. begun columns u last (r * b) l ⊕ f r l) → Lined (r + 1) b 0 w v (λ r l. begun columns w last (r * b) l ⊕ f r l)
cells_next columns b last r w u v f past p q =
    let e : r * b ≡ 0 + r * b = omega arith in
    lined_more r b 0 w u v (λ r l. begun columns w last (r * b) l ⊕ f r l) p (subst (λ (x : ℕ). Put u v x b (λ l. begun columns w last (r * b) l ⊕ f r l)) e (put_same q (λ l h.
    ap (λ (x : ℕ). x ⊕ f r l) (begun_same columns last (r * b) l u w (p.after (last + l) (omega arith)) (p.after (r * b + l) (omega arith))))))

-- ---- column by column

module _ (g : Grid) (s : List ℕ) (e d : ℕ) (columns : Columns) where
  abbrev pub Swept : List ℕ → List ℕ → ℕ → ℕ → Type 0
  Swept w q x y = Grown (g.m - 1) g.b 0 w q (λ r l. span_of g s e ((r + d) % g.m) (record { from = x; to = y; u = columns.u; v = columns.v }) l)

  pub swept_none : (w : List ℕ) (x : ℕ) → Swept w w x x
  swept_none w x = grown_none (g.m - 1) g.b 0 w _ (λ r l. span_none g.m (lane_of g s columns l) e ((r + d) % g.m) x)

  pub swept_more : (w o q : List ℕ) (x t : ℕ) → Swept w o x t → Grown (g.m - 1) g.b 0 o q (λ r l. cell_of g s columns e ((r + d) % g.m) t l) → Swept w q x (t + 1)
  swept_more w o q x t p f = grown_both (g.m - 1) g.b 0 w o q _ _ _ p f (λ r l. span_more g.m (lane_of g s columns l) e ((r + d) % g.m) x t)

pub repeated : {m b c : ℕ} → Sized m b c → (w u v : List ℕ) → Put w u 0 ((m - 2) * b) (λ l. 0)
    → Lined (m - 2) b 0 u v (λ r l. get_or u (0 + (r * b + l)) 0 ⊕ get_or u (0 + (m - 2) * b + l) 0) → Lined (m - 1) b 0 w v (λ r l. get_or w ((m - 2) * b + l) 0)
repeated {m} {b} {c} z w u v p q = record {
  size = q.size ∙ p.size;
  inside = λ r l h k. by_order (get_or v (0 + (r * b + l)) 0 ≡ get_or w ((m - 2) * b + l) 0) r (m - 2)
      (λ low. q.inside r l low k ∙ ap₂ ◌⊕◌ (p.inside (r * b + l) (omega (arith, parts_end b low))) (last l) ∙ zero_⊕ (get_or w ((m - 2) * b + l) 0))
      (λ high.
      let e : r ≡ m - 2 = omega arith in
      let x : 0 + (r * b + l) ≡ 0 + (m - 2) * b + l = omega (arith, ap (λ (n : ℕ). n * b) e) in
      ap (λ (n : ℕ). get_or v n 0) x ∙ q.after (0 + (m - 2) * b + l) (omega arith) ∙ last l);
  before = λ x h. absurd (omega arith);
  after = λ x h. q.after x (omega (arith, end)) ∙ p.after x (omega (arith, end));
}
  where
    end : (m - 2) * b ≤ (m - 1) * b
    end = mul-le-mul_right b (omega arith)

    last : (l : ℕ) → get_or u (0 + (m - 2) * b + l) 0 ≡ get_or w ((m - 2) * b + l) 0
    last l = let e : 0 + (m - 2) * b + l ≡ (m - 2) * b + l = omega arith in p.after (0 + (m - 2) * b + l) (omega arith) ∙ ap (λ (n : ℕ). get_or w n 0) e

-- ---- group after group

-- Each of the first cells of o has what the cell of w at `seed` has, and f 0 t, what the columns below t add to it.
module _ (rows b seed : ℕ) (f : ℕ → ℕ → ℕ → ℕ → ℕ) where
  pub record InCells (w o : List ℕ) (t : ℕ) : Type 0 where
    pub none : t ≡ 0 → o ≡ w
    pub some : t ≢ 0 → Lined rows b 0 w o (λ r l. get_or w (seed + l) 0 ⊕ f 0 t r l)
    pub size : length o ≡ length w

  pub in_cells_next : ((r l t n : ℕ) → t ≢ 0 → f 0 t r l ⊕ f t n r l ≡ f 0 n r l) → (w o q : List ℕ) (columns : Columns) → columns.from < columns.to → InCells w o columns.from
      → Lined rows b 0 o q (λ r l. begun columns o seed (r * b) l ⊕ f columns.from columns.to r l) → InCells w q columns.to
  in_cells_next join w o q columns h p x = record {
    none = λ z. absurd (omega arith);
    some = λ _. elim (ℕ_discrete columns.from 0) [
      | yes z ↦
          subst (λ (v : List ℕ). Lined rows b 0 v q (λ r l. get_or w (seed + l) 0 ⊕ f 0 columns.to r l)) (p.none z) (lined_same x (λ r l hr hl.
          ap₂ ◌⊕◌ (begun_first columns seed (r * b) l o z ∙ ap (λ (v : List ℕ). get_or v (seed + l) 0) (p.none z)) (ap (λ (v : ℕ). f v columns.to r l) z)))
      | no z ↦
          let a = p.some z in record {
            size = x.size ∙ a.size;
            inside = λ r l hr hl.
                let e : r * b + l ≡ 0 + (r * b + l) = omega arith in
                plus_both (get_or w (seed + l) 0) (f 0 columns.from r l) (f columns.from columns.to r l) (a.inside r l hr hl)
                (x.inside r l hr hl ∙ ap (λ (v : ℕ). v ⊕ f columns.from columns.to r l) (begun_next columns seed (r * b) l o z ∙ ap (λ (v : ℕ). get_or o v 0) e))
                (join r l columns.from columns.to z);
            before = λ v hv. x.before v hv ∙ a.before v hv;
            after = λ v hv. x.after v hv ∙ a.after v hv;
          }
    ];
    size = x.size ∙ p.size;
  }

-- the same of the cell at `to` alone
module _ (b seed to : ℕ) (f : ℕ → ℕ → ℕ → ℕ) where
  pub record InCell (w o : List ℕ) (t : ℕ) : Type 0 where
    pub none : t ≡ 0 → o ≡ w
    pub some : t ≢ 0 → Put w o to b (λ l. get_or w (seed + l) 0 ⊕ f 0 t l)
    pub size : length o ≡ length w

  pub in_cell_next : ((l t n : ℕ) → t ≢ 0 → f 0 t l ⊕ f t n l ≡ f 0 n l) → (w o q : List ℕ) (columns : Columns) → columns.from < columns.to → InCell w o columns.from
      → Put o q to b (λ l. begun columns o seed to l ⊕ f columns.from columns.to l) → InCell w q columns.to
  in_cell_next join w o q columns h p x = record {
    none = λ z. absurd (omega arith);
    some = λ _. elim (ℕ_discrete columns.from 0) [
      | yes z ↦
          subst (λ (v : List ℕ). Put v q to b (λ l. get_or w (seed + l) 0 ⊕ f 0 columns.to l)) (p.none z) (put_same x (λ l hl.
          ap₂ ◌⊕◌ (begun_first columns seed to l o z ∙ ap (λ (v : List ℕ). get_or v (seed + l) 0) (p.none z)) (ap (λ (v : ℕ). f v columns.to l) z)))
      | no z ↦
          let a = p.some z in record {
            size = x.size ∙ a.size;
            inside = λ l hl.
                plus_both (get_or w (seed + l) 0) (f 0 columns.from l) (f columns.from columns.to l) (a.inside l hl)
                (x.inside l hl ∙ ap (λ (v : ℕ). v ⊕ f columns.from columns.to l) (begun_next columns seed to l o z)) (join l columns.from columns.to z);
            before = λ v hv. x.before v hv ∙ a.before v hv;
            after = λ v hv. x.after v hv ∙ a.after v hv;
          }
    ];
    size = x.size ∙ p.size;
  }

-- a line over some columns, and then over the next
module _ (g : Grid) (s : List ℕ) (e u v : ℕ) where
  abbrev pub over : ℕ → ℕ → Columns
  over x y = record { from = x; to = y; u = u; v = v }

  pub over_join : (i l t n : ℕ) → t ≢ 0 → window_of g s e i (over 0 t) l ⊕ window_of g s e i (over t n) l ≡ window_of g s e i (over 0 n) l
  over_join i l t n z = window_join g.m g.k (lane_of g s (over 0 t) l) e i t n z

  -- the next columns after those below t
  pub onward : {w : ℕ} (o i t n l x : ℕ) → t ≢ 0 → w ≡ o ⊕ window_of g s e i (over 0 t) l → x ≡ w ⊕ window_of g s e i (over t n) l → x ≡ o ⊕ window_of g s e i (over 0 n) l
  onward o i t n l x ne p q = plus_both o (window_of g s e i (over 0 t) l) (window_of g s e i (over t n) l) p q (over_join i l t n ne)
