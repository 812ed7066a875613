-- Laws of lines: the row of a line, one column more, and the bytes that lines depend on.
--   up_around, up_straight   the row after some steps of a diagonal, as the code finds it
--   back_none, back_back     no step; some steps after others
--   row_down                 the walk of a diagonal: down by one at each column, and from 0 to m - 1, is row i - t modulo m in column t
--   real_in, real_out        rows below m - 1 are the lane's, the others zero
--   span_none, span_more, span_join, span_line   a span of no columns, of one column more, of the columns of two, and from column 0 on
--   real_same, span_agree    a cell of a column, and one of another column that is the same; a span depends on the bytes of its own columns alone
--   line_but_lem                 a line is what is left of it without column u, and the byte in column u
--   column_is, column_most, cell_room   a cell lies within its column, and a column is not long
--   laid_kept                a stripe of the same length is laid out as another
--   slant_next               what a slant adds up to, column by column
use mathlib.Core.Path.{◌≡◌, sym, ap, ap₂, ◌∙◌, subst}
use mathlib.Core.List.{List}
use Prim.Native.Nat.{ℕ, suc, ◌+◌, ◌*◌, ◌-◌, ◌%◌, ◌≤◌, ◌<◌}
use native.Mathlib.Nat.{mod-lt, mod-eq_of_lt, add-mod_right, mod-add-mod, mul-le-mul, mul-le-mul_left, le_refl, le_trans}
use native.Mathlib.Numerals.{add-one}
use native.Mathlib.Decide.{le_ind}
use native.Mathlib.Omega.{arith}
use lib.ListN.{length}
use borrow.Author.Tests.{lt-ltb, le-ltb}
use Rattle.parity.specs.Xor.{◌⊕◌}
use Rattle.parity.specs.Sum.{sum}
use Rattle.parity.specs.Shape.{column_length}
use Rattle.parity.specs.Equations.{Lane, back}
use Rattle.parity.proofs.Xor.{⊕_assoc, ⊕_self, ⊕_cancel, zero_⊕}
use Rattle.cells.proofs.Parts.{parts_end, by_order}
use Rattle.lines.specs.declared.Grid.{Grid}
use Rattle.lines.specs.Lines.{real, line, span, Sized, Laid}

pub up_around : (m e r : ℕ) → r < e → e ≤ m → r + m - e ≡ back m r e
unfolding back
up_around m e r h l =
    let q : r + m - e ≡ r + (m - e) = omega arith in
    q ∙ sym (mod-eq_of_lt (omega arith))

pub up_straight : (m e r : ℕ) → e ≤ r → r < m → r - e ≡ back m r e
unfolding back
up_straight m e r h l =
    let q : r + (m - e) ≡ r - e + m = omega arith in
    sym (ap (λ (x : ℕ). x % m) q ∙ add-mod_right (r - e) m ∙ mod-eq_of_lt (omega arith))

pub back_none : (m i : ℕ) → i < m → back m i 0 ≡ i
unfolding back
back_none m i h = let q : i + (m - 0) ≡ i + m = omega arith in ap (λ (x : ℕ). x % m) q ∙ add-mod_right i m ∙ mod-eq_of_lt h

pub back_back : (m i x y : ℕ) → x + y ≤ m → back m (back m i x) y ≡ back m i (x + y)
unfolding back
back_back m i x y h =
    let q : i + (m - x) + (m - y) ≡ i + (m - (x + y)) + m = omega arith in
    mod-add-mod (i + (m - x)) m (m - y) ∙ ap (λ (x : ℕ). x % m) q ∙ add-mod_right (i + (m - (x + y))) m

pub back_lt : (m i x : ℕ) → 0 < m → back m i x < m
unfolding back
back_lt m i x h = mod-lt (i + (m - x)) h

-- diagonal i is in row i - t modulo m of column t; from there the step of the walk, down by one and from 0 to m - 1, leads to its row in the next column
pub row_down : (m i t r x : ℕ) → t < m → r ≡ back m i t → (r ≡ 0 → x ≡ m - 1) × (0 < r → x ≡ r - 1) → x ≡ back m i (t + 1)
row_down m i t r x h row step =
    by_order (x ≡ back m r 1) r 1
    (λ z. let e : r + m - 1 ≡ m - 1 = omega arith in step.0 (omega arith) ∙ sym e ∙ up_around m 1 r z (omega arith))
    (λ z. step.1 z ∙ up_straight m 1 r z (omega (arith, row, back_lt m i t (omega arith))))
    ∙ ap (λ (y : ℕ). back m y 1) row
    ∙ back_back m i t 1 (omega arith)

module _ (m : ℕ) (a : Lane) where
  pub real_in : (r t : ℕ) → r < m - 1 → real m a r t ≡ a r t
  unfolding real
  real_in r t h = rw (lt-ltb r (m - 1) h)

  pub real_out : (r t : ℕ) → m - 1 ≤ r → real m a r t ≡ 0
  unfolding real
  real_out r t h = rw (le-ltb r (m - 1) h)

  pub span_none : (e i t : ℕ) → span m a e i t t ≡ 0
  unfolding span
  span_none e i t = ⊕_self (line m a e i t)

  -- a span from column 0 on is a line
  pub span_line : (e i n : ℕ) → span m a e i 0 n ≡ line m a e i n
  unfolding span line sum
  span_line e i n = zero_⊕ (line m a e i n)

  line_more : (e i t : ℕ) → line m a e i t ⊕ real m a (back m i (e * t)) t ≡ line m a e i (t + 1)
  unfolding line sum
  line_more e i t = ap (λ (n : ℕ). line m a e i n) (sym (add-one t))

  pub span_more : (e i x t : ℕ) → span m a e i x t ⊕ real m a (back m i (e * t)) t ≡ span m a e i x (t + 1)
  unfolding span
  span_more e i x t = ⊕_assoc (line m a e i x) (line m a e i t) _ ∙ ap (λ (y : ℕ). line m a e i x ⊕ y) (line_more e i t)

  pub span_join : (e i x y z : ℕ) → span m a e i x y ⊕ span m a e i y z ≡ span m a e i x z
  unfolding span
  span_join e i x y z = ⊕_assoc (line m a e i x) (line m a e i y) _ ∙ ap (λ (n : ℕ). line m a e i x ⊕ n) (⊕_cancel (line m a e i y) (line m a e i z))

  -- without column u
  pub line_but_lem : (e i u n : ℕ) → line m a e i n ≡ span m a e i 0 u ⊕ real m a (back m i (e * u)) u ⊕ span m a e i (u + 1) n
  line_but_lem e i u n = sym (ap (λ (x : ℕ). x ⊕ span m a e i (u + 1) n) (span_more e i 0 u) ∙ span_join e i 0 (u + 1) n ∙ span_line e i n)

-- a cell lies within its column, and a column is not long
module _ (m b c : ℕ) (z : Sized m b c) where
  pub column_is : c ≡ (m - 1) * b
  unfolding column_length
  column_is = z.column

  pub column_most : c ≤ 516096
  column_most = let q : (m - 1) * b ≤ 126 * 4096 = mul-le-mul {n₂ = 126} {m₂ = 4096} (omega (arith, z.few)) z.short in omega (arith, column_is)

  pub cell_room : (r j n : ℕ) → r < m - 1 → j + n ≤ b → r * b + j + n ≤ c
  cell_room r j n h k = omega (arith, column_is, parts_end b h)

pub laid_kept : {g : Grid} {s t : List ℕ} → length t ≡ length s → Laid g s → Laid g t
laid_kept e p = record { sized = p.sized; some = p.some; few = p.few; whole = e ∙ p.whole }

-- what a slant adds up to, column by column
module _ (e y m : ℕ) (within : e * y ≤ m) where
  slant_in : (t : ℕ) → t ≤ y → e * t ≤ m
  slant_in t h = le_trans (mul-le-mul_left e h) within

  pub slant_next : (t : ℕ) → t < y → e * t + e ≤ m
  slant_next t h = let q : e * (t + 1) ≤ m = slant_in (t + 1) (omega arith) in omega (arith, q)

-- ---- two lanes that have the same bytes in some columns

pub real_same : (m : ℕ) (a b : Lane) (r : ℕ) {t t' : ℕ} → (r < m - 1 → a r t ≡ b r t') → real m a r t ≡ real m b r t'
real_same m a b r {t} {t'} same = by_order (real m a r t ≡ real m b r t') r (m - 1)
    (λ h. real_in m a r t h ∙ same h ∙ sym (real_in m b r t' h))
    (λ h. real_out m a r t h ∙ sym (real_out m b r t' h))

pub span_agree : (m : ℕ) (a b : Lane) (e i x y : ℕ) → x ≤ y → ((r t : ℕ) → r < m - 1 → x ≤ t → t < y → a r t ≡ b r t) → span m a e i x y ≡ span m b e i x y
span_agree m a b e i x y order same =
    le_ind (λ n. n ≤ y → span m a e i x n ≡ span m b e i x n) (λ _. span_none m a e i x ∙ sym (span_none m b e i x)) step y order (le_refl y)
  where
    step : (n : ℕ) → x ≤ n → (n ≤ y → span m a e i x n ≡ span m b e i x n) → suc n ≤ y → span m a e i x (suc n) ≡ span m b e i x (suc n)
    step n hx ih hy =
        subst (λ (z : ℕ). span m a e i x z ≡ span m b e i x z) (add-one n)
        (sym (span_more m a e i x n)
        ∙ ap₂ ◌⊕◌ (ih (omega arith)) (real_same m a b (back m i (e * n)) (λ h. same (back m i (e * n)) n h hx (omega arith)))
        ∙ span_more m b e i x n)
