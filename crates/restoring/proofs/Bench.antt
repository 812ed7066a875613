-- Steps on a bench, as what stands in its halves. `Parted m b w f g`: the first half of w is f, its second half g.
--   first_at, second_at      where the bytes of a buffer of two columns stand
--   bench_now                what stands there
--   first_set, second_set    a half was set
--   first_added              the first half was added to the second
--   RowsIn, rows_added       to each row i of the second half a row of the first was added, and what stands there then
--   rows_restored, one_restored, two_restored   what stands there is what was to be restored: some rows, all of them in the first half, both halves
--   lined_after              a column of which one cell was set first, and then all
--   lent_lined, lent_put     a half was lent, and its cells, or one of them, set
--   lent_at, half_whole      a byte of a half that is lent, and how many it has
use mathlib.Core.Path.{◌≡◌, refl, sym, ap, ap₂, ◌∙◌}
use mathlib.Core.List.{List}
use Prim.Native.Nat.{ℕ, ◌+◌, ◌-◌, ◌*◌, ◌≤◌, ◌<◌}
use native.Mathlib.Omega.{arith}
use lib.ListN.{length, get_or, drop, length-drop}
use lib.Seq.{length-take-le}
use borrow.Rule.Slice.PartMut.{put_mid}
use Rattle.parity.specs.Xor.{◌⊕◌}
use Rattle.parity.specs.Shape.{column_length}
use Rattle.parity.specs.Stripe.{byte, lane, Valid}
use Rattle.cells.specs.Runs.{Put}
use Rattle.cells.proofs.Parts.{part, part_at, parts_end, by_order, mid_length, mid_before, mid_inside, mid_after}
use Rattle.lines.specs.Lines.{real}
use Rattle.lines.specs.Rows.{Lined}
use Rattle.lines.proofs.Lines.{real_same}
use Rattle.walk.specs.Walk.{Column, Parted}
use Rattle.restoring.specs.Restoring.{SameBut, SameButTwo, RowsRestored, OneRestored, TwoRestored}

-- a column of which one cell was set first, and then all
pub lined_after : {n b at len : ℕ} {w u v : List ℕ} {h : ℕ → ℕ} {f f' : ℕ → ℕ → ℕ} → length u ≡ length w → Lined n b 0 u v f → Put w u at len h
    → ((r l : ℕ) → r < n → l < b → f r l ≡ f' r l) → at + len ≡ n * b → Lined n b 0 w v f'
lined_after size p q so e = record {
  size = p.size ∙ size;
  inside = λ r l hr hl. p.inside r l hr hl ∙ so r l hr hl;
  before = λ x h. absurd (omega arith);
  after = λ x h. p.after x h ∙ q.after x (omega arith);
}

pub half_whole : {c : ℕ} (w : List ℕ) (at e : ℕ) → at ≤ e → e ≤ length w → e - at ≡ c → length (part w at e) ≡ c
half_whole w at e order room q = length-take-le (e - at) (drop at w) (simp length-drop (omega arith)) ∙ q

-- ---- a part of w from `at` up to e that was lent and came back as y

module _ (w y : List ℕ) (at e : ℕ) (order : at ≤ e) (room : e ≤ length w) where
  abbrev back : List ℕ
  back = put_mid at (e - at) w y

  lent_size : length y ≡ length (part w at e) → length y ≡ e - at
  lent_size q = q ∙ length-take-le (e - at) (drop at w) (simp length-drop (omega arith))

  pub lent_at : (j : ℕ) → j < e - at → get_or (part w at e) j 0 ≡ get_or w (at + j) 0
  lent_at j h = part_at w at e j h

  pub lent_put : {p n : ℕ} {f : ℕ → ℕ} → p + n ≤ e - at → Put (part w at e) y p n f → Put w back (at + p) n f
  lent_put {p} {n} {f} in_it q =
      let s = lent_size q.size in
      let r : at + (e - at) ≤ length w = omega arith in record {
        size = mid_length w y at (e - at) r s;
        inside = λ l h.
            let d : at + p + l ≡ at + (p + l) = omega arith in
            ap (λ (x : ℕ). get_or back x 0) d ∙ mid_inside w y at (e - at) r s (p + l) (omega arith) ∙ q.inside l h;
        before = λ x h. by_order (get_or back x 0 ≡ get_or w x 0) x at
            (λ low. mid_before w y at (e - at) r s x low)
            (λ high.
            let j : ℕ = x - at in
            let d : x ≡ at + j = omega arith in
            ap (λ (x : ℕ). get_or back x 0) d ∙ mid_inside w y at (e - at) r s j (omega arith) ∙ q.before j (omega arith) ∙ lent_at j (omega arith) ∙ ap (λ (x : ℕ). get_or w x 0) (sym d));
        after = λ x h. by_order (get_or back x 0 ≡ get_or w x 0) x e
            (λ low.
            let j : ℕ = x - at in
            let d : x ≡ at + j = omega arith in
            ap (λ (x : ℕ). get_or back x 0) d ∙ mid_inside w y at (e - at) r s j (omega arith) ∙ q.after j (omega arith) ∙ lent_at j (omega arith) ∙ ap (λ (x : ℕ). get_or w x 0) (sym d))
            (λ high. mid_after w y at (e - at) r s x (omega arith));
      }

  pub lent_lined : {n b : ℕ} {f : ℕ → ℕ → ℕ} → n * b ≤ e - at → Lined n b 0 (part w at e) y f → Lined n b at w back f
  lent_lined {n} {b} {f} in_it q =
      let s = lent_size q.size in
      let r : at + (e - at) ≤ length w = omega arith in record {
        size = mid_length w y at (e - at) r s;
        inside = λ i l h k.
            let d : i * b + l ≡ 0 + (i * b + l) = omega arith in
            mid_inside w y at (e - at) r s (i * b + l) (omega (arith, parts_end b h)) ∙ ap (λ (x : ℕ). get_or y x 0) d ∙ q.inside i l h k;
        before = λ x h. mid_before w y at (e - at) r s x h;
        after = λ x h. by_order (get_or back x 0 ≡ get_or w x 0) x e
            (λ low.
            let j : ℕ = x - at in
            let d : x ≡ at + j = omega arith in
            ap (λ (x : ℕ). get_or back x 0) d ∙ mid_inside w y at (e - at) r s j (omega arith) ∙ q.after j (omega arith) ∙ lent_at j (omega arith) ∙ ap (λ (x : ℕ). get_or w x 0) (sym d))
            (λ high. mid_after w y at (e - at) r s x (omega arith));
      }

module _ (m b : ℕ) where
  -- the bytes of a buffer of two columns
  pub first_at : (w : List ℕ) (r l : ℕ) → lane m b w l r 0 ≡ get_or w (0 + (r * b + l)) 0
  unfolding byte
  first_at w r l = let e : 0 * column_length m b + (r * b + l) ≡ 0 + (r * b + l) = omega arith in ap (λ (x : ℕ). get_or w x 0) e

  pub second_at : (c : ℕ) (w : List ℕ) (r l : ℕ) → c ≡ column_length m b → lane m b w l r 1 ≡ get_or w (c + (r * b + l)) 0
  unfolding byte
  second_at c w r l h = let e : 1 * column_length m b + (r * b + l) ≡ c + (r * b + l) = omega arith in ap (λ (x : ℕ). get_or w x 0) e

  column_end : (c x : ℕ) → c ≡ column_length m b → 0 + (m - 1) * b ≤ c + x
  unfolding column_length
  column_end c x e = omega arith

  row_room : (r l : ℕ) → r < m - 1 → l < b → r * b + l < column_length m b
  unfolding column_length
  row_room r l h k = omega (arith, parts_end b h)

  pub bench_now : (w : List ℕ) → length w ≡ 2 * column_length m b → Parted m b w (λ i l. lane m b w l i 0) (λ i l. lane m b w l i 1)
  bench_now w whole = record { size = whole; first = λ i l hi hl. refl; second = λ i l hi hl. refl }

  pub first_set : {w v : List ℕ} {f g h : Column} → Parted m b w f g → Lined (m - 1) b 0 w v h → Parted m b v h g
  first_set {w} {v} p q = record {
    size = q.size ∙ p.size;
    first = λ i l hi hl. first_at v i l ∙ q.inside i l hi hl;
    second = λ i l hi hl.
        let c = column_length m b in
        second_at c v i l refl ∙ q.after (c + (i * b + l)) (column_end c (i * b + l) refl) ∙ sym (second_at c w i l refl) ∙ p.second i l hi hl;
  }

  module _ {c : ℕ} (column : c ≡ column_length m b) where
    pub second_set : {w v : List ℕ} {f g h : Column} → Parted m b w f g → Lined (m - 1) b c w v h → Parted m b v f h
    second_set {w} {v} p q = record {
      size = q.size ∙ p.size;
      first = λ i l hi hl.
          first_at v i l ∙ q.before (0 + (i * b + l)) (omega (arith, row_room i l hi hl)) ∙ sym (first_at w i l) ∙ p.first i l hi hl;
      second = λ i l hi hl. second_at c v i l column ∙ q.inside i l hi hl;
    }

    pub first_added : {w v : List ℕ} {f g : Column} → Parted m b w f g → Put w v c c (λ l. get_or w (c + l) 0 ⊕ get_or w (0 + l) 0) → Parted m b v f (λ i l. g i l ⊕ f i l)
    first_added {w} {v} p q = record {
      size = q.size ∙ p.size;
      first = λ i l hi hl.
          first_at v i l ∙ q.before (0 + (i * b + l)) (omega (arith, row_room i l hi hl)) ∙ sym (first_at w i l) ∙ p.first i l hi hl;
      second = λ i l hi hl.
          second_at c v i l column
          ∙ q.inside (i * b + l) (omega (arith, row_room i l hi hl))
          ∙ ap₂ ◌⊕◌ (sym (second_at c w i l column) ∙ p.second i l hi hl) (sym (first_at w i l) ∙ p.first i l hi hl);
    }

  -- ---- rows of the first half added to the second: row ρ i to row i

  abbrev pub RowsIn : ℕ → (ℕ → ℕ) → List ℕ → List ℕ → Type 0
  RowsIn c ρ w v = Lined (m - 1) b c w v (λ i l. get_or w (c + (i * b + l)) 0 ⊕ real m (lane m b w l) (ρ i) 0)

  module _ {c : ℕ} (column : c ≡ column_length m b) (ρ : ℕ → ℕ) where
    pub rows_added : {w v : List ℕ} {f g : Column} → Parted m b w f g → RowsIn c ρ w v → Parted m b v f (λ i l. g i l ⊕ real m (λ r t. f r l) (ρ i) 0)
    rows_added {w} {v} {f} {g} p q = record {
      size = q.size ∙ p.size;
      first = (second_set column p q).first;
      second = λ i l hi hl.
          (second_set column p q).second i l hi hl
          ∙ ap₂ ◌⊕◌ (sym (second_at c w i l column) ∙ p.second i l hi hl) (real_same m (lane m b w l) (λ r t. f r l) (ρ i) (λ hr. p.first (ρ i) l hr hl));
    }

-- ---- what was to be restored

module _ (m k b : ℕ) {s : List ℕ} {u : ℕ} where
  pub rows_restored : {first n : ℕ} {w v : List ℕ} {f : Column} → Lined n b 0 w v f
      → ((r : List ℕ) → Valid m k b r → SameBut m k b u s r → (l i : ℕ) → l < b → i < n → f i l ≡ byte m b r l (first + i) u)
      → RowsRestored m k b u first n s w v
  rows_restored {v = v} p so = record {
    size = p.size;
    rows = λ r valid same l i hl hi.
        let e : i * b + l ≡ 0 + (i * b + l) = omega arith in
        ap (λ (x : ℕ). get_or v x 0) e ∙ p.inside i l hi hl ∙ so r valid same l i hl hi;
  }

  -- all rows, restored to the first half, which was lent
  pub one_restored : {c : ℕ} (w y : List ℕ) → c ≡ column_length m b → c ≤ length w → RowsRestored m k b u 0 (m - 1) s (part w 0 c) y → OneRestored m k b u s w (put_mid 0 (c - 0) w y)
  one_restored {c} w y column room p = record {
    size = mid_length w y 0 (c - 0) fits size;
    first = λ r valid same l i hl hi.
        let e : 0 + i ≡ i = omega arith in
        first_at m b now i l ∙ mid_inside w y 0 (c - 0) fits size (i * b + l) (omega (arith, row_room m b i l hi hl)) ∙ p.rows r valid same l i hl hi ∙ ap (λ (x : ℕ). byte m b r l x u) e;
    second = λ l i hl hi. second_at m b c now i l column ∙ mid_after w y 0 (c - 0) fits size (c + (i * b + l)) (omega arith) ∙ sym (second_at m b c w i l column);
  }
    where
      now : List ℕ
      now = put_mid 0 (c - 0) w y

      fits : 0 + (c - 0) ≤ length w
      fits = omega arith

      size : length y ≡ c - 0
      size = lent_size w y 0 c (omega arith) room p.size

module _ (m k b : ℕ) {s w v : List ℕ} (whole : length w ≡ 2 * column_length m b) where
  pub two_restored : {u u' : ℕ} {f g : Column} → Parted m b v f g
      → ((r : List ℕ) → Valid m k b r → SameButTwo m k b u u' s r → (l i : ℕ) → l < b → i < m - 1 → (f i l ≡ byte m b r l i u) × (g i l ≡ byte m b r l i u'))
      → TwoRestored m k b u u' s w v
  two_restored p so = record {
    size = p.size ∙ sym whole;
    both = λ r valid same l i hl hi. let e = so r valid same l i hl hi in (p.first i l hi hl ∙ e.0, p.second i l hi hl ∙ e.1);
  }
