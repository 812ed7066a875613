-- Laws of `Lined`: the cells of a buffer set row after row, and something added time after time.
--   lined_none, lined_more    no row set, and one row more
--   run_rows                  a run that was set, row by row
--   lined_same, lined_count   the same bytes, and the same rows, by another name
--   Grown n b at w v f        v is w with f r l added at lane l of cell r, of the n cells from `at` on
--   grown_more                one row more that was added to
--   each_more                 one row more that the cell at `from`, which is none of them, was added to
--   grown_none, grown_both    nothing added, and one thing added after another
--   grown_behind              something added to the end of a buffer, which was lent by itself
--   lined_grown               cells that were set, and then added to
--   grown_same                the same added, by another name
--   plus_none, plus_both      a byte that nothing was added to, and one that something was added to time after time
use mathlib.Core.Path.{◌≡◌, refl, sym, ap, ◌∙◌, subst}
use mathlib.Core.Logic.{◌⊎◌, inl, inr}
use mathlib.Core.List.{List, ◌++◌}
use Prim.Native.Nat.{ℕ, ◌+◌, ◌-◌, ◌*◌, ◌≤◌, ◌<◌}
use native.Mathlib.Omega.{arith}
use lib.ListN.{length, take, drop, get_or, get_or-append, length-append, length-drop}
use lib.Seq.{get_or-take, get_or-drop, get_or-append-add, length-take-le}
use Rattle.parity.specs.Xor.{◌⊕◌}
use Rattle.parity.proofs.Xor.{⊕_assoc, ⊕_zero}
use Rattle.cells.specs.Runs.{Put}
use Rattle.cells.proofs.Parts.{parts_end, by_order}
use Rattle.cells.proofs.Puts.{put_same}
use Rattle.lines.specs.Rows.{Lined}

-- ---- row after row

pub lined_none : (b at : ℕ) (w : List ℕ) (f : ℕ → ℕ → ℕ) → Lined 0 b at w w f
lined_none b at w f = record { size = refl; inside = λ r l h. absurd (omega arith); before = λ p h. refl; after = λ p h. refl }

pub lined_more : (n b at : ℕ) (w u v : List ℕ) (f : ℕ → ℕ → ℕ) → Lined n b at w u f → Put u v (at + n * b) b (f n) → Lined (n + 1) b at w v f
lined_more n b at w u v f p q = record {
  size = q.size ∙ p.size;
  inside = λ r l h k. by_order (get_or v (at + (r * b + l)) 0 ≡ f r l) r n
      (λ low. q.before (at + (r * b + l)) (omega (arith, parts_end b low)) ∙ p.inside r l low k)
      (λ high.
      let e : r ≡ n = omega arith in
      let d : at + (n * b + l) ≡ at + n * b + l = omega arith in
      ap (λ (x : ℕ). get_or v (at + (x * b + l)) 0) e ∙ ap (λ (x : ℕ). get_or v x 0) d ∙ q.inside l k ∙ ap (λ (x : ℕ). f x l) (sym e));
  before = λ x h. q.before x (omega arith) ∙ p.before x h;
  after = λ x h. q.after x (omega arith) ∙ p.after x (omega arith);
}

pub run_rows : {n b at c : ℕ} {w v : List ℕ} {f : ℕ → ℕ} → c ≡ n * b → Put w v at c f → Lined n b at w v (λ r l. f (r * b + l))
run_rows {b = b} e q = record {
  size = q.size;
  inside = λ r l h k. q.inside (r * b + l) (omega (arith, parts_end b h));
  before = q.before;
  after = λ x h. q.after x (omega arith);
}

pub lined_same : {n b at : ℕ} {w v : List ℕ} {f g : ℕ → ℕ → ℕ} → Lined n b at w v f → ((r l : ℕ) → r < n → l < b → f r l ≡ g r l) → Lined n b at w v g
lined_same p so = record { size = p.size; inside = λ r l h k. p.inside r l h k ∙ so r l h k; before = p.before; after = p.after }

pub lined_count : {n m b at : ℕ} {w v : List ℕ} {f : ℕ → ℕ → ℕ} → Lined n b at w v f → n ≡ m → Lined m b at w v f
lined_count {b = b} {at} {w} {v} {f} p e = subst (λ (x : ℕ). Lined x b at w v f) e p

-- ---- time after time

pub plus_none : {f : ℕ} (x : ℕ) → f ≡ 0 → x ≡ x ⊕ f
plus_none x e = sym (ap (λ (y : ℕ). x ⊕ y) e ∙ ⊕_zero x)

pub plus_both : {u v h : ℕ} (x f g : ℕ) → u ≡ x ⊕ f → v ≡ u ⊕ g → f ⊕ g ≡ h → v ≡ x ⊕ h
plus_both x f g p q so = q ∙ ap (λ (y : ℕ). y ⊕ g) p ∙ ⊕_assoc x f g ∙ ap (λ (y : ℕ). x ⊕ y) so

abbrev pub Grown : ℕ → ℕ → ℕ → List ℕ → List ℕ → (ℕ → ℕ → ℕ) → Type 0
Grown n b at w v f = Lined n b at w v (λ r l. get_or w (at + (r * b + l)) 0 ⊕ f r l)

pub grown_more : (n b at : ℕ) (w u v : List ℕ) (f : ℕ → ℕ → ℕ) → Grown n b at w u f
    → Put u v (at + n * b) b (λ l. get_or u (at + n * b + l) 0 ⊕ f n l) → Grown (n + 1) b at w v f
grown_more n b at w u v f p q = lined_more n b at w u v (λ r l. get_or w (at + (r * b + l)) 0 ⊕ f r l) p (put_same q (λ l h.
    let e : at + n * b + l ≡ at + (n * b + l) = omega arith in
    ap (λ (x : ℕ). x ⊕ f n l) (ap (λ (x : ℕ). get_or u x 0) e ∙ p.after (at + (n * b + l)) (omega arith))))

pub each_more : (n b at from : ℕ) (w u v : List ℕ) → (from + b ≤ at) ⊎ (at + n * b ≤ from) → Grown n b at w u (λ r l. get_or w (from + l) 0)
    → Put u v (at + n * b) b (λ l. get_or u (at + n * b + l) 0 ⊕ get_or u (from + l) 0) → Grown (n + 1) b at w v (λ r l. get_or w (from + l) 0)
each_more n b at from w u v apart p q = grown_more n b at w u v (λ r l. get_or w (from + l) 0) p (put_same q (λ l h.
    ap (λ (x : ℕ). get_or u (at + n * b + l) 0 ⊕ x) (kept l h apart)))
  where
    kept : (l : ℕ) → l < b → (from + b ≤ at) ⊎ (at + n * b ≤ from) → get_or u (from + l) 0 ≡ get_or w (from + l) 0
    kept l h (inl low) = p.before (from + l) (omega arith)
    kept l h (inr high) = p.after (from + l) (omega arith)

module _ (n b at : ℕ) where
  pub grown_none : (w : List ℕ) (f : ℕ → ℕ → ℕ) → ((r l : ℕ) → f r l ≡ 0) → Grown n b at w w f
  grown_none w f so = record { size = refl; inside = λ r l h k. plus_none (get_or w (at + (r * b + l)) 0) (so r l); before = λ p h. refl; after = λ p h. refl }

  pub grown_same : (w v : List ℕ) (f g : ℕ → ℕ → ℕ) → Grown n b at w v f → ((r l : ℕ) → r < n → l < b → f r l ≡ g r l) → Grown n b at w v g
  grown_same w v f g p so = lined_same p (λ r l h k. ap (λ (x : ℕ). get_or w (at + (r * b + l)) 0 ⊕ x) (so r l h k))

  -- what was added to the end of a buffer, from `at` on, which was lent by itself
  pub grown_behind : (w v : List ℕ) (f : ℕ → ℕ → ℕ) → at ≤ length w → Grown n b 0 (drop at w) v f → Grown n b at w (take at w ++ v) f
  grown_behind w v f room p = record {
    size = simp (length-append, length-drop, front, p.size) (omega arith);
    inside = λ r l h k.
        let e : 0 + (r * b + l) ≡ r * b + l = omega arith in
        behind (r * b + l) ∙ ap (λ (x : ℕ). get_or v x 0) (sym e) ∙ p.inside r l h k ∙ ap (λ (x : ℕ). x ⊕ f r l) (get_or-drop at w (0 + (r * b + l)) 0 ∙ ap (λ (x : ℕ). get_or w (at + x) 0) e);
    before = λ x k. get_or-append (take at w) v 0 x (rw front k) ∙ get_or-take at w x 0 k;
    after = λ x k.
        let e : x ≡ at + (x - at) = omega arith in
        ap (λ (y : ℕ). get_or (take at w ++ v) y 0) e ∙ behind (x - at) ∙ p.after (x - at) (omega arith) ∙ get_or-drop at w (x - at) 0 ∙ ap (λ (y : ℕ). get_or w y 0) (sym e);
  }
    where
      front : length (take at w) ≡ at
      front = length-take-le at w room

      behind : (j : ℕ) → get_or (take at w ++ v) (at + j) 0 ≡ get_or v j 0
      behind j = ap (λ (x : ℕ). get_or (take at w ++ v) (x + j) 0) (sym front) ∙ get_or-append-add (take at w) v j 0

  pub lined_grown : {w u v : List ℕ} {f : ℕ → ℕ → ℕ} (g : ℕ → ℕ → ℕ) → Lined n b at w u f → Grown n b at u v g → Lined n b at w v (λ r l. f r l ⊕ g r l)
  lined_grown g p q = record {
    size = q.size ∙ p.size;
    inside = λ r l k j. q.inside r l k j ∙ ap (λ (x : ℕ). x ⊕ g r l) (p.inside r l k j);
    before = λ x k. q.before x k ∙ p.before x k;
    after = λ x k. q.after x k ∙ p.after x k;
  }

  pub grown_both : (w u v : List ℕ) (f g h : ℕ → ℕ → ℕ) → Grown n b at w u f → Grown n b at u v g → ((r l : ℕ) → f r l ⊕ g r l ≡ h r l) → Grown n b at w v h
  grown_both w u v f g h p q so = record {
    size = q.size ∙ p.size;
    inside = λ r l k j. plus_both (get_or w (at + (r * b + l)) 0) (f r l) (g r l) (p.inside r l k j) (q.inside r l k j) (so r l);
    before = λ x k. q.before x k ∙ p.before x k;
    after = λ x k. q.after x k ∙ p.after x k;
  }
