-- Laws of places: places listed one after another, what their cells add up to, and lanes with nothing in some columns.
--   listed_one, listed_none, listed_then   one place more, none, and some after others
--   listed_same, listed_ends, listed_most   the same cells by another name, within more bytes, and fewer than might be
--   listed_first, listed_column            the cells of a line in no column, and in one column more
--   total_none, total_more                 no place, and one more
--   total_part, within_part                the first n places, lent as a part of `at`
--   window_start, window_first, window_next              a line over the first columns has its end, over others it has not
--   window_join                            over the first columns, and then over the next
--   follows_crosses                        a line that can be followed
--   without_other, first_without, second_without   a column that is not left out, and those that are
--   without_real, without_first, without_second    the same of a cell that may be imaginary
--   without_span                             a line over columns none of which is left out
--   without_one                              a line over the columns from 0 on but one
use mathlib.Core.Path.{◌≡◌, refl, sym, ap, ap₂, ◌∙◌, subst}
use mathlib.Core.Bool.{Bool, true, false, cond}
use mathlib.Core.Logic.{◌≢◌}
use mathlib.Core.List.{List}
use Prim.Native.Nat.{ℕ, zero, suc, ◌+◌, ◌-◌, ◌*◌, ◌≤◌, ◌<◌}
use native.Mathlib.Nat.{mul-le-mul}
use native.Mathlib.Numerals.{add-one}
use native.Mathlib.Omega.{arith}
use lib.Dec.{eqb, ltb}
use lib.ListN.{length, get_or, set, drop, length-set, length-drop}
use lib.Seq.{get_or-set_same, get_or-set_other, length-take-le}
use borrow.Author.Tests.{eq-eqb, ne_eqb}
use borrow.Author.Count.{below_more}
use Rattle.parity.specs.Xor.{◌⊕◌}
use Rattle.parity.specs.Sum.{sum}
use Rattle.parity.specs.Equations.{Lane, back}
use Rattle.parity.specs.Stripe.{lane}
use Rattle.parity.proofs.Xor.{⊕_assoc, ⊕_zero, zero_⊕}
use Rattle.parity.proofs.Sum.{sum_cong}
use Rattle.cells.proofs.Parts.{part, part_at}
use Rattle.lines.specs.declared.Columns.{Columns}
use Rattle.lines.specs.declared.Grid.{Grid}
use Rattle.lines.specs.Lines.{real, span, ended, Crosses}
use Rattle.lines.specs.Places.{without, window, total, Within, Listed, Follows, LineListed}
use Rattle.lines.proofs.Lines.{span_none, span_more, span_join}

-- ---- places one after another

pub total_none : (at s : List ℕ) (l : ℕ) → total at 0 s l ≡ 0
unfolding total sum
total_none at s l = refl

pub total_more : (at : List ℕ) (n : ℕ) (s : List ℕ) (l : ℕ) → total at (n + 1) s l ≡ total at n s l ⊕ get_or s (get_or at n 0 + l) 0
unfolding total sum
total_more at n s l = ap (λ (x : ℕ). total at x s l) (add-one n)

total_set : (at : List ℕ) (n p : ℕ) (s : List ℕ) (l : ℕ) → total (set at n p) n s l ≡ total at n s l
unfolding total
total_set at n p s l = sum_cong n (λ x h. ap (λ (q : ℕ). get_or s (q + l) 0) (get_or-set_other at n x p 0 (λ q. absurd (omega arith))))

pub listed_one : (b z n p : ℕ) (at : List ℕ) (f : List ℕ → ℕ → ℕ) → n < length at → p + b ≤ z → ((s : List ℕ) (l : ℕ) → get_or s (p + l) 0 ≡ f s l)
    → Listed b z n (n + 1) 1 at (set at n p) f
listed_one b z n p at f room e so = record {
  size = length-set at n p;
  least = omega arith;
  most = omega arith;
  sums = λ s l. total_more (set at n p) n s l ∙ ap (λ (x : ℕ). x ⊕ get_or s (get_or (set at n p) n 0 + l) 0) (total_set at n p s l)
      ∙ ap (λ (x : ℕ). total at n s l ⊕ get_or s (x + l) 0) (get_or-set_same at n p 0 room)
      ∙ ap (λ (x : ℕ). total at n s l ⊕ x) (so s l);
  within = λ y h w. below_more (λ x. get_or (set at n p) x 0 + b ≤ y) n
      (λ x k. subst (λ (q : ℕ). q + b ≤ y) (sym (get_or-set_other at n x p 0 (λ q. absurd (omega arith)))) (w x k))
      (subst (λ (q : ℕ). q + b ≤ y) (sym (get_or-set_same at n p 0 room)) (omega arith));
}

pub listed_none : (b z n more : ℕ) (at : List ℕ) (f : List ℕ → ℕ → ℕ) → ((s : List ℕ) (l : ℕ) → f s l ≡ 0) → Listed b z n n more at at f
listed_none b z n more at f so = record {
  size = refl;
  least = omega arith;
  most = omega arith;
  sums = λ s l. sym (ap (λ (x : ℕ). total at n s l ⊕ x) (so s l) ∙ ⊕_zero (total at n s l));
  within = λ y h w. w;
}

pub listed_then : {b y z n x k i j : ℕ} {at u v : List ℕ} {f g : List ℕ → ℕ → ℕ} → y ≤ z → Listed b y n x i at u f → Listed b z x k j u v g
    → Listed b z n k (i + j) at v (λ s l. f s l ⊕ g s l)
listed_then {n = n} {at = at} {f = f} {g} h p q = record {
  size = q.size ∙ p.size;
  least = omega (arith, p.least, q.least);
  most = omega (arith, p.most, q.most);
  sums = λ s l. q.sums s l ∙ ap (λ (x : ℕ). x ⊕ g s l) (p.sums s l) ∙ ⊕_assoc (total at n s l) (f s l) (g s l);
  within = λ o k w. q.within o k (p.within o (omega arith) w);
}

pub listed_same : {b z n k i j : ℕ} {at v : List ℕ} {f g : List ℕ → ℕ → ℕ} → Listed b z n k i at v f → i ≡ j
    → ((s : List ℕ) (l : ℕ) → f s l ≡ g s l) → Listed b z n k j at v g
listed_same {n = n} {at = at} p e so = record {
  size = p.size;
  least = p.least;
  most = omega (arith, p.most);
  sums = λ s l. p.sums s l ∙ ap (λ (x : ℕ). total at n s l ⊕ x) (so s l);
  within = p.within;
}

pub listed_ends : {b y z n k i : ℕ} {at v : List ℕ} {f : List ℕ → ℕ → ℕ} → y ≤ z → Listed b y n k i at v f → Listed b z n k i at v f
listed_ends h p = record { size = p.size; least = p.least; most = p.most; sums = p.sums; within = λ o k w. p.within o (omega arith) w }

pub listed_most : {b z n k i j : ℕ} {at v : List ℕ} {f : List ℕ → ℕ → ℕ} → i ≤ j → Listed b z n k i at v f → Listed b z n k j at v f
listed_most h p = record { size = p.size; least = p.least; most = omega (arith, p.most); sums = p.sums; within = p.within }

-- of those columns the ones below t
abbrev pub up_to : Columns → ℕ → Columns
up_to columns t = record { from = columns.from; to = t; u = columns.u; v = columns.v }

module _ (g : Grid) (e i : ℕ) (columns : Columns) {n : ℕ} {at : List ℕ} where
  pub listed_first : LineListed g e i (up_to columns columns.from) n n at at
  listed_first = listed_none _ _ _ _ at _ (λ s l. span_none g.m (without columns.u columns.v (lane g.m g.b s l)) e i columns.from)

  pub listed_column : {x y t : ℕ} {p q : List ℕ} (r : ℕ) → columns.from ≤ t → r ≡ back g.m i (e * t) → LineListed g e i (up_to columns t) n x at p
      → Listed g.b (t * g.column + g.column) x y 1 p q (λ s l. real g.m (without columns.u columns.v (lane g.m g.b s l)) r t)
      → LineListed g e i (up_to columns (t + 1)) n y at q
  listed_column {t = t} r order row so more =
      let a : List ℕ → ℕ → Lane = λ s l. without columns.u columns.v (lane g.m g.b s l) in
      let z : (t + 1) * g.column ≡ t * g.column + g.column = omega arith in
      listed_same (listed_ends (omega (arith, z)) (listed_then (omega arith) so more)) (omega (arith, order)) (λ s l.
      ap (λ (j : ℕ). span g.m (a s l) e i columns.from t ⊕ real g.m (a s l) j t) row ∙ span_more g.m (a s l) e i columns.from t)

-- ---- the first n places, lent

module _ (at : List ℕ) (n : ℕ) (room : n ≤ length at) where
  pub part_length : length (part at 0 n) ≡ n
  part_length = let h : n - 0 ≤ length (drop 0 at) = omega (arith, length-drop 0 at) in length-take-le (n - 0) (drop 0 at) h ∙ omega arith

  pub total_part : (s : List ℕ) (l : ℕ) → total (part at 0 n) (length (part at 0 n)) s l ≡ total at n s l
  unfolding total
  total_part s l = ap (λ (x : ℕ). total (part at 0 n) x s l) part_length ∙ sum_cong n (λ x h. ap (λ (q : ℕ). get_or s (q + l) 0) (part_at at 0 n x (omega arith) ∙ ap (λ (q : ℕ). get_or at q 0) (omega arith)))

  pub within_part : (b z : ℕ) → Within at n b z → Within (part at 0 n) (length (part at 0 n)) b z
  within_part b z w x h = let k : x < n = subst (λ (y : ℕ). x < y) part_length h in subst (λ (q : ℕ). q + b ≤ z) (sym (part_at at 0 n x (omega arith) ∙ ap (λ (q : ℕ). get_or at q 0) (omega arith))) (w x k)

-- ---- a line over some columns, with its end where these are the first

module _ (m k : ℕ) (a : Lane) (e i : ℕ) where
  pub window_start : (y : ℕ) → window m k a e i 0 y ≡ real m a i (k + e) ⊕ span m a e i 0 y
  unfolding window
  window_start y = refl

  pub window_first : (y : ℕ) → window m k a e i 0 y ≡ ended m a e i (k + e) y
  unfolding window ended
  window_first y = refl

  pub window_next : (x y : ℕ) → x ≢ 0 → window m k a e i x y ≡ span m a e i x y
  unfolding window
  window_next x y h = ap (λ (c : Bool). cond c (real m a i (k + e)) 0 ⊕ span m a e i x y) (ne_eqb x 0 h) ∙ zero_⊕ (span m a e i x y)

  pub window_join : (x y : ℕ) → x ≢ 0 → window m k a e i 0 x ⊕ window m k a e i x y ≡ window m k a e i 0 y
  window_join x y h =
      ap₂ ◌⊕◌ (window_start x) (window_next x y h)
      ∙ ⊕_assoc (real m a i (k + e)) (span m a e i 0 x) (span m a e i x y)
      ∙ ap (λ (z : ℕ). real m a i (k + e) ⊕ z) (span_join m a e i 0 x y)
      ∙ sym (window_start y)

pub follows_crosses : {g : Grid} {e i : ℕ} {columns : Columns} → Follows g e i columns → Crosses g.m g.column (columns.to * g.column) e i columns.from columns.to
follows_crosses {g} {e} {i} {columns} z =
    let w : e * columns.to ≤ 1 * g.m = mul-le-mul z.slant (omega (arith, z.most, z.few)) in
    record {
      slant = z.slant;
      inside = z.inside;
      order = z.order;
      within = omega (arith, w);
      most = omega (arith, z.most, z.few, z.sized.few);
      columns = omega arith;
    }

-- ---- lanes with nothing in some columns

cond_none : (c : Bool) → ◌≡◌ {A = ℕ} (cond c 0 0) 0
cond_none true = refl
cond_none false = refl

real_none : (m : ℕ) (a : Lane) (r t : ℕ) → a r t ≡ 0 → real m a r t ≡ 0
unfolding real
real_none m a r t h = ap (λ (x : ℕ). cond (ltb r (m - 1)) x 0) h ∙ cond_none (ltb r (m - 1))

module _ (m u v : ℕ) (a : Lane) where
  pub without_other : (r t : ℕ) → t ≢ u → t ≢ v → without u v a r t ≡ a r t
  unfolding without
  without_other r t h k = ap (λ (c : Bool). cond c 0 (cond (eqb t v) 0 (a r t))) (ne_eqb t u h) ∙ ap (λ (c : Bool). cond c 0 (a r t)) (ne_eqb t v k)

  pub without_real : (r t : ℕ) → t ≢ u → t ≢ v → real m (without u v a) r t ≡ real m a r t
  unfolding real
  without_real r t h k = ap (λ (x : ℕ). cond (ltb r (m - 1)) x 0) (without_other r t h k)

  pub first_without : (r t : ℕ) → t ≡ u → without u v a r t ≡ 0
  unfolding without
  first_without r t h = ap (λ (c : Bool). cond c 0 (cond (eqb t v) 0 (a r t))) (eq-eqb t u h)

  pub second_without : (r t : ℕ) → t ≡ v → without u v a r t ≡ 0
  unfolding without
  second_without r t h = ap (λ (c : Bool). cond (eqb t u) 0 (cond c 0 (a r t))) (eq-eqb t v h) ∙ cond_none (eqb t u)

  pub without_first : (r t : ℕ) → t ≡ u → real m (without u v a) r t ≡ 0
  without_first r t h = real_none m (without u v a) r t (first_without r t h)

  pub without_second : (r t : ℕ) → t ≡ v → real m (without u v a) r t ≡ 0
  without_second r t h = real_none m (without u v a) r t (second_without r t h)

  span_up : (d e i x y : ℕ) → y ≡ x + d → ((t : ℕ) → x ≤ t → t < y → (t ≢ u) × (t ≢ v)) → span m (without u v a) e i x y ≡ span m a e i x y
  span_up zero e i x y q so =
      let p : x ≡ y = omega arith in
      subst (λ (n : ℕ). span m (without u v a) e i x n ≡ span m a e i x n) p (span_none m (without u v a) e i x ∙ sym (span_none m a e i x))
  span_up (suc d) e i x y q so =
      let n : ℕ = x + d in
      let p : n + 1 ≡ y = omega arith in
      let h = so n (omega arith) (omega arith) in
      subst (λ (z : ℕ). span m (without u v a) e i x z ≡ span m a e i x z) p
      (sym (span_more m (without u v a) e i x n)
      ∙ ap (λ (z : ℕ). z ⊕ real m (without u v a) (back m i (e * n)) n) (span_up d e i x n refl (λ t l k. so t l (omega arith)))
      ∙ ap (λ (z : ℕ). span m a e i x n ⊕ z) (without_real (back m i (e * n)) n h.0 h.1)
      ∙ span_more m a e i x n)

  pub without_span : (e i x y : ℕ) → x ≤ y → ((t : ℕ) → x ≤ t → t < y → (t ≢ u) × (t ≢ v)) → span m (without u v a) e i x y ≡ span m a e i x y
  without_span e i x y h so = span_up (y - x) e i x y (omega arith) so

-- a column with nothing in it adds nothing
span_over : (m : ℕ) (a : Lane) (u : ℕ) → ((r : ℕ) → real m a r u ≡ 0) → (e i x n : ℕ) → span m a e i x n ≡ span m a e i x u ⊕ span m a e i (u + 1) n
span_over m a u so e i x n =
    let none : span m a e i u (u + 1) ≡ 0 = sym (span_more m a e i u u) ∙ ap (λ (y : ℕ). y ⊕ real m a (back m i (e * u)) u) (span_none m a e i u) ∙ zero_⊕ (real m a (back m i (e * u)) u) ∙ so (back m i (e * u)) in
    sym (span_join m a e i x u n)
    ∙ ap (λ (y : ℕ). span m a e i x u ⊕ y) (sym (span_join m a e i u (u + 1) n) ∙ ap (λ (y : ℕ). y ⊕ span m a e i (u + 1) n) none ∙ zero_⊕ (span m a e i (u + 1) n))

module _ (m u : ℕ) (a : Lane) where
  pub without_one : (e i n : ℕ) → u < n → span m (without u u a) e i 0 n ≡ span m a e i 0 u ⊕ span m a e i (u + 1) n
  without_one e i n h =
      let below : span m (without u u a) e i 0 u ≡ span m a e i 0 u = without_span m u u a e i 0 u (omega arith) (λ t l k. (λ q. absurd (omega arith), λ q. absurd (omega arith))) in
      let above : span m (without u u a) e i (u + 1) n ≡ span m a e i (u + 1) n = without_span m u u a e i (u + 1) n (omega arith) (λ t l k. (λ q. absurd (omega arith), λ q. absurd (omega arith))) in
      span_over m (without u u a) u (λ r. without_first m u u a r u refl) e i 0 n
      ∙ ap (λ (y : ℕ). y ⊕ span m (without u u a) e i (u + 1) n) below
      ∙ ap (λ (y : ℕ). span m a e i 0 u ⊕ y) above
