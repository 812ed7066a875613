-- The ends of lines, in H and D, as sums over the data columns.
--   every_column    no stripe has column 129, so a span that leaves it out is whole
--   from_none       a sum that begins with nothing
--   encoded         S in D's last cell, and then all columns summed in H and D: the equations hold
use mathlib.Core.Path.{◌≡◌, sym, ap, ap₂, ◌∙◌}
use mathlib.Core.List.{List, ◌++◌}
use Prim.Native.Nat.{ℕ, ◌+◌, ◌-◌, ◌*◌, ◌≤◌, ◌<◌}
use native.Mathlib.Omega.{arith}
use lib.ListN.{length, get_or, get_or-append, get_or-eq_default, length-append}
use lib.Seq.{get_or-append-add}
use Rattle.parity.specs.Xor.{◌⊕◌}
use Rattle.parity.specs.Shape.{column_length}
use Rattle.parity.specs.Equations.{Lane}
use Rattle.parity.specs.Stripe.{lane}
use Rattle.parity.proofs.Xor.{zero_⊕}
use Rattle.cells.specs.Runs.{Put}
use Rattle.lines.specs.declared.Grid.{Grid}
use Rattle.lines.specs.Lines.{line, span, Laid}
use Rattle.lines.specs.Places.{without}
use Rattle.lines.proofs.Lines.{span_line, cell_room}
use Rattle.lines.proofs.Cells.{at_row}
use Rattle.lines.proofs.Equations.{H_line, S_line, D_line, line_kept}
use Rattle.lines.proofs.Places.{without_span}
use Rattle.encoding.specs.Encoded.{Encoded}
use Rattle.encoding.specs.Sums.{Summed}

module _ (m : ℕ) (a : Lane) (e i : ℕ) where
  pub every_column : (x y : ℕ) → x ≤ y → y ≤ 129 → span m (without 129 129 a) e i x y ≡ span m a e i x y
  every_column x y h k = without_span m 129 129 a e i x y h (λ t l n. (λ q. absurd (omega arith), λ q. absurd (omega arith)))

  pub from_none : (w : List ℕ) (l k : ℕ) → get_or w (length w + l) 0 ⊕ span m a e i 0 k ≡ line m a e i k
  from_none w l k = ap₂ ◌⊕◌ (get_or-eq_default w 0 {n = length w + l} (omega arith)) (span_line m a e i k) ∙ zero_⊕ (line m a e i k)

-- ---- a stripe of data columns u, H and D

module _ {g : Grid} {s u o h d d₁ h' d' : List ℕ} (z : Laid g s) (split : s ≡ u ++ o) (size_u : length u ≡ g.k * g.column) (split_o : o ≡ h ++ d) (size_h : length h ≡ g.column)
    (p : Put d d₁ ((g.m - 2) * g.b) g.b (λ l. line g.m (lane g.m g.b u l) 1 (g.m - 1) g.k)) (q : Summed g u h h' d₁ d') where
  abbrev new : List ℕ
  new = u ++ (h' ++ d')

  data_length : length u ≡ g.k * column_length g.m g.b
  data_length = size_u ∙ ap (λ (c : ℕ). g.k * c) z.sized.column

  data_kept : (x : ℕ) → x < g.k * column_length g.m g.b → get_or new x 0 ≡ get_or u x 0
  data_kept x less = get_or-append u (h' ++ d') 0 x (omega (arith, data_length))

  in_line : (l : ℕ) → l < g.b → (e i : ℕ) → line g.m (lane g.m g.b u l) e i g.k ≡ line g.m (lane g.m g.b new l) e i g.k
  in_line l hl e i = sym (line_kept g.m g.b g.k u new data_kept l hl g.k (omega arith) e i)

  in_rows : (i l : ℕ) → i < g.m - 1 → l < g.b → lane g.m g.b new l i g.k ≡ get_or h' (0 + (i * g.b + l)) 0
  in_rows i l hi hl =
      let less = cell_room g.m g.b g.column z.sized i l 1 hi (omega arith) in
      let e : g.k * g.column + (i * g.b + l) ≡ length u + (i * g.b + l) = omega (arith, size_u) in
      let o : i * g.b + l ≡ 0 + (i * g.b + l) = omega arith in
      at_row z.sized new g.k l i ∙ ap (λ (x : ℕ). get_or new x 0) e ∙ get_or-append-add u (h' ++ d') (i * g.b + l) 0
      ∙ get_or-append h' d' 0 (i * g.b + l) (omega (arith, q.rows.size, size_h, less)) ∙ ap (λ (x : ℕ). get_or h' x 0) o

  in_diagonals : (i l : ℕ) → lane g.m g.b new l i (g.k + 1) ≡ get_or d' (0 + (i * g.b + l)) 0
  in_diagonals i l =
      let e : (g.k + 1) * g.column + (i * g.b + l) ≡ length u + (length h' + (i * g.b + l)) = omega (arith, size_u, q.rows.size, size_h) in
      let o : i * g.b + l ≡ 0 + (i * g.b + l) = omega arith in
      at_row z.sized new (g.k + 1) l i ∙ ap (λ (x : ℕ). get_or new x 0) e ∙ get_or-append-add u (h' ++ d') (length h' + (i * g.b + l)) 0
      ∙ get_or-append-add h' d' (i * g.b + l) 0 ∙ ap (λ (x : ℕ). get_or d' x 0) o

  pub encoded : Encoded g.m g.k g.b s new
  encoded = record {
    size = rw split (rw split_o (simp length-append (omega (arith, q.rows.size, q.diagonals.size, p.size))));
    kept = λ x less. data_kept x less ∙ sym (ap (λ (v : List ℕ). get_or v x 0) split ∙ get_or-append u o 0 x (omega (arith, data_length)));
    holds = λ l hl. record {
      h = λ i hi. in_rows i l hi hl ∙ q.rows.inside i l hi hl ∙ in_line l hl 0 i ∙ sym (H_line g.m g.k z.few (lane g.m g.b new l) i (omega arith));
      d = λ i hi.
          in_diagonals i l ∙ q.diagonals.inside i l hi hl
          ∙ ap₂ ◌⊕◌ (p.inside l hl ∙ in_line l hl 1 (g.m - 1) ∙ sym (S_line g.m g.k z.few (lane g.m g.b new l) z.sized.big)) (in_line l hl 1 i)
          ∙ sym (D_line g.m g.k z.few (lane g.m g.b new l) i);
    };
  }
