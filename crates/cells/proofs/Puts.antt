-- Laws of `Put` and `Added`.
--   put_none, put_one   nothing put, and one byte more
--   put_kept            bytes that were so before
--   put_start           a byte of a run that was set from its start
--   put_next            a second run after the first, which may overlap it
--   put_same, put_count the same bytes by another name, and so many by another name
--   put_part_lem        a lent part that came back with other bytes
--   put_cleared         a lent part that came back cleared
--   put_copied          a lent part that came back as a run which was set before
--   put_taken           a lent part that came back as a part of another list
--   put_again           a run that was set, and then set again to what it held with something added
--   put_all             the whole run became another one
--   put_beside          the same byte set in both lists, after the run
--   through_one         one byte more added from one run to the next, and on
--   put_then_added      a run that was set, and then added to
--   added_put           a run added to from its start
--   added_none, added_both, added_same
use mathlib.Core.Path.{◌≡◌, refl, sym, ap, ap₂, ◌∙◌, subst}
use mathlib.Core.List.{List}
use Prim.Native.Nat.{ℕ, ◌+◌, ◌-◌, ◌≤◌, ◌<◌}
use native.Mathlib.Decide.{ℕ_discrete}
use native.Mathlib.Omega.{arith}
use lib.ListN.{length, drop, get_or, set, length-set, length-drop, get_or-eq_default}
use lib.Seq.{get_or-set_same, get_or-set_other, length-take-le}
use borrow.Author.Count.{below_more}
use borrow.Rule.Slice.PartMut.{put_mid}
use Rattle.parity.specs.Xor.{◌⊕◌}
use Rattle.parity.proofs.Xor.{⊕_assoc, ⊕_zero}
use Rattle.cells.specs.Runs.{Added, Put, Through}
use Rattle.cells.proofs.Parts.{part, part_at, by_order, mid_length, mid_before, mid_inside, mid_after}

pub put_kept : (s : List ℕ) (at n : ℕ) (f : ℕ → ℕ) → ((l : ℕ) → l < n → get_or s (at + l) 0 ≡ f l) → Put s s at n f
put_kept s at n f so = record { size = refl; inside = so; before = λ p h. refl; after = λ p h. refl }

pub put_none : (s : List ℕ) (at : ℕ) (f : ℕ → ℕ) → Put s s at 0 f
put_none s at f = put_kept s at 0 f (λ l h. absurd (omega arith))

pub put_one : (s t : List ℕ) (at l v : ℕ) (f : ℕ → ℕ) → at + l < length t → v ≡ f l → Put s t at l f → Put s (set t (at + l) v) at (l + 1) f
put_one s t at l v f room e p = record {
  size = length-set t (at + l) v ∙ p.size;
  inside = below_more (λ (x : ℕ). get_or (set t (at + l) v) (at + x) 0 ≡ f x) l
      (λ x h. get_or-set_other t (at + l) (at + x) v 0 (λ q. absurd (omega arith)) ∙ p.inside x h)
      (get_or-set_same t (at + l) v 0 room ∙ e);
  before = λ x h. get_or-set_other t (at + l) x v 0 (λ q. absurd (omega arith)) ∙ p.before x h;
  after = λ x h. get_or-set_other t (at + l) x v 0 (λ q. absurd (omega arith)) ∙ p.after x (omega arith);
}

pub put_start : {s t : List ℕ} {n : ℕ} {f : ℕ → ℕ} → Put s t 0 n f → (l : ℕ) → l < n → get_or t l 0 ≡ f l
put_start {t = t} p l h = let e : l ≡ 0 + l = omega arith in ap (λ (v : ℕ). get_or t v 0) e ∙ p.inside l h

pub put_next : (s t u : List ℕ) (at j x n : ℕ) (f g : ℕ → ℕ) → x ≤ j → j ≤ x + n → Put s t at j f → Put t u (at + x) n (λ l. g (x + l))
    → ((l : ℕ) → x ≤ l → l < x + n → g l ≡ f l) → Put s u at (x + n) f
put_next s t u at j x n f g h₁ h₂ p q so = record {
  size = q.size ∙ p.size;
  inside = λ l h. by_order (get_or u (at + l) 0 ≡ f l) l x
      (λ b. q.before (at + l) (omega arith) ∙ p.inside l (omega arith))
      (λ b.
      let e : at + l ≡ at + x + (l - x) = omega arith in
      let d : x + (l - x) ≡ l = omega arith in
      ap (λ (v : ℕ). get_or u v 0) e ∙ q.inside (l - x) (omega arith) ∙ ap g d ∙ so l b h);
  before = λ v h. q.before v (omega arith) ∙ p.before v h;
  after = λ v h. q.after v (omega arith) ∙ p.after v (omega arith);
}

pub put_same : {s t : List ℕ} {at n : ℕ} {f g : ℕ → ℕ} → Put s t at n f → ((l : ℕ) → l < n → f l ≡ g l) → Put s t at n g
put_same p so = record { size = p.size; inside = λ l h. p.inside l h ∙ so l h; before = p.before; after = p.after }

pub put_count : {s t : List ℕ} {at n k : ℕ} {f : ℕ → ℕ} → Put s t at n f → n ≡ k → Put s t at k f
put_count {s} {t} {at} {f = f} p e = subst (λ (x : ℕ). Put s t at x f) e p

pub put_part_lem : (w y : List ℕ) (at n : ℕ) (f : ℕ → ℕ) → at + n ≤ length w → length y ≡ n → ((l : ℕ) → l < n → get_or y l 0 ≡ f l) → Put w (put_mid at n w y) at n f
put_part_lem w y at n f room l so = record {
  size = mid_length w y at n room l;
  inside = λ j h. mid_inside w y at n room l j h ∙ so j h;
  before = mid_before w y at n room l;
  after = mid_after w y at n room l;
}

pub put_taken : (w y z : List ℕ) (at from n : ℕ) → at + n ≤ length w → from + n ≤ length z → y ≡ part z from (from + n)
    → Put w (put_mid at (at + n - at) w y) at n (λ l. get_or z (from + l) 0)
put_taken w y z at from n room there e =
    put_count (put_part_lem w y at (at + n - at) (λ l. get_or z (from + l) 0) (omega arith)
    (ap length e ∙ length-take-le (from + n - from) (drop from z) (simp length-drop (omega arith)) ∙ omega arith)
    (λ l h. ap (λ (v : List ℕ). get_or v l 0) e ∙ part_at z from (from + n) l (omega arith))) (omega arith)

-- the whole run became another one
pub put_all : (x z y : List ℕ) (f : ℕ → ℕ) → length z ≡ length x → y ≡ z → ((l : ℕ) → l < length x → get_or z l 0 ≡ f l) → Put x y 0 (length x) f
put_all x z y f size e so = record {
  size = ap length e ∙ size;
  inside = λ l h. let q : 0 + l ≡ l = omega arith in ap (λ (v : ℕ). get_or y v 0) q ∙ ap (λ (v : List ℕ). get_or v l 0) e ∙ so l h;
  before = λ p h. absurd (omega arith);
  after = λ p h. get_or-eq_default y 0 {n = p} (omega (arith, ap length e)) ∙ sym (get_or-eq_default x 0 {n = p} (omega arith));
}

pub added_none : (x : List ℕ) (f : ℕ → ℕ) → ((l : ℕ) → l < length x → f l ≡ 0) → Added x x f
added_none x f so = record { size = refl; byte = λ l h. sym (ap (λ (n : ℕ). get_or x l 0 ⊕ n) (so l h) ∙ ⊕_zero (get_or x l 0)) }

pub added_both : {x y z : List ℕ} {f g : ℕ → ℕ} → Added x y f → Added y z g → Added x z (λ l. f l ⊕ g l)
added_both {x} {f = f} {g = g} p q = record {
  size = q.size ∙ p.size;
  byte = λ l h. q.byte l (rw p.size h) ∙ ap (λ (n : ℕ). n ⊕ g l) (p.byte l h) ∙ ⊕_assoc (get_or x l 0) (f l) (g l);
}

pub added_same : {x y : List ℕ} {f g : ℕ → ℕ} → Added x y f → ((l : ℕ) → l < length x → f l ≡ g l) → Added x y g
added_same {x} p so = record { size = p.size; byte = λ l h. p.byte l h ∙ ap (λ (n : ℕ). get_or x l 0 ⊕ n) (so l h) }

-- a run that was set, and then added to
pub put_then_added : {x y z : List ℕ} {f g : ℕ → ℕ} → Put x y 0 (length x) f → Added y z g → Put x z 0 (length x) (λ l. f l ⊕ g l)
put_then_added {x} {y} {z} {f} {g} p a = record {
  size = a.size ∙ p.size;
  inside = λ l h.
      let q : 0 + l ≡ l = omega arith in
      ap (λ (v : ℕ). get_or z v 0) q ∙ a.byte l (rw p.size h) ∙ ap (λ (v : ℕ). v ⊕ g l) (ap (λ (v : ℕ). get_or y v 0) (sym q) ∙ p.inside l h);
  before = λ v h. absurd (omega arith);
  after = λ v h. get_or-eq_default z 0 {n = v} (omega (arith, a.size, p.size)) ∙ sym (get_or-eq_default x 0 {n = v} (omega arith));
}

pub added_put : {x y : List ℕ} {f : ℕ → ℕ} → Put x y 0 (length x) (λ l. get_or x l 0 ⊕ f l) → Added x y f
added_put {x} {y} {f} p = record {
  size = p.size;
  byte = λ l h. let e : 0 + l ≡ l = omega arith in ap (λ (v : ℕ). get_or y v 0) (sym e) ∙ p.inside l h;
}

pub put_copied : (w x y z : List ℕ) (at n : ℕ) (f : ℕ → ℕ) → at + length x ≤ length w → n ≡ length x → Put x y 0 (length x) f → z ≡ y
    → Put w (put_mid at n w z) at (length x) f
put_copied w x y z at n f room e p so =
    put_count (put_part_lem w z at n f (omega arith) (ap length so ∙ p.size ∙ sym e) (λ l h.
    let q : l ≡ 0 + l = omega arith in
    ap (λ (v : List ℕ). get_or v l 0) so ∙ ap (λ (v : ℕ). get_or y v 0) q ∙ p.inside l (omega arith))) e

-- a run that was set, and then set again to what it held with something added
pub put_again : {x y z : List ℕ} {at n : ℕ} {f : ℕ → ℕ} (g : ℕ → ℕ) → Put x y at n f → Put y z at n (λ l. get_or y (at + l) 0 ⊕ g l) → Put x z at n (λ l. f l ⊕ g l)
put_again g p q = record {
  size = q.size ∙ p.size;
  inside = λ l h. q.inside l h ∙ ap (λ (v : ℕ). v ⊕ g l) (p.inside l h);
  before = λ v h. q.before v h ∙ p.before v h;
  after = λ v h. q.after v h ∙ p.after v h;
}

-- bytes that were lent and cleared
pub put_cleared : (w y : List ℕ) (at e : ℕ) → at ≤ e → e ≤ length w → Put (part w at e) y 0 (length (part w at e)) (λ l. 0) → Put w (put_mid at (e - at) w y) at (e - at) (λ l. 0)
put_cleared w y at e order room p = put_part_lem w y at (e - at) (λ l. 0) (omega arith) (p.size ∙ size) (λ l h. put_start p l (rw size h))
  where
    size : length (part w at e) ≡ e - at
    size = length-take-le (e - at) _ (simp length-drop (omega arith))

-- the same byte set in both lists, after the run
put_beside : {s t : List ℕ} {at n : ℕ} {f : ℕ → ℕ} (k v : ℕ) → at + n ≤ k → k < length s → Put s t at n f → Put (set s k v) (set t k v) at n f
put_beside {s} {t} {at} k v past room p = record {
  size = length-set t k v ∙ p.size ∙ sym (length-set s k v);
  inside = λ l h. get_or-set_other t k (at + l) v 0 (λ q. absurd (omega arith)) ∙ p.inside l h;
  before = λ x h. kept x (p.before x h);
  after = λ x h. kept x (p.after x h);
}
  where
    kept : (x : ℕ) → get_or t x 0 ≡ get_or s x 0 → get_or (set t k v) x 0 ≡ get_or (set s k v) x 0
    kept x e = elim (ℕ_discrete x k) [
      | yes q ↦ ap (λ (y : ℕ). get_or (set t k v) y 0) q ∙ get_or-set_same t k v 0 (omega (arith, p.size)) ∙ sym (ap (λ (y : ℕ). get_or (set s k v) y 0) q ∙ get_or-set_same s k v 0 room)
      | no ne ↦ get_or-set_other t k x v 0 ne ∙ e ∙ sym (get_or-set_other s k x v 0 ne)
    ]

pub through_one : (s t : List ℕ) (from mid to n l x : ℕ) → from + n ≤ mid → to + n ≤ mid → mid + n ≤ length s → (from < to → from + n ≤ to) → l < n
    → x ≡ get_or t (mid + l) 0 ⊕ get_or t (from + l) 0 → Through s t from mid to l
    → Through s (set (set t (mid + l) x) (to + l) (get_or (set t (mid + l) x) (to + l) 0 ⊕ x)) from mid to (l + 1)
through_one s t from mid to n l x below under room apart h e q = record {
  between = set u (mid + l) x;
  first = put_one s u mid l x _ in_u (e ∙ ap₂ ◌⊕◌ (r.after (mid + l) (omega arith) ∙ p.after (mid + l) (omega arith)) (read ∙ p.before (from + l) (omega arith))) p;
  second = put_one (set u (mid + l) x) (set t (mid + l) x) to l _ _ (simp length-set (omega (arith, r.size))) (ap₂ ◌⊕◌ (y.after (to + l) (omega arith)) (sym (get_or-set_same u (mid + l) x 0 in_u)))
      (put_same y (λ j hj. sym (ap₂ ◌⊕◌ (get_or-set_other u (mid + l) (to + j) x 0 (λ z. absurd (omega arith))) (get_or-set_other u (mid + l) (mid + j) x 0 (λ z. absurd (omega arith))))));
}
  where
    u : List ℕ
    u = q.between

    p : Put s u mid l (λ j. get_or s (mid + j) 0 ⊕ get_or s (from + j) 0)
    p = q.first

    r : Put u t to l (λ j. get_or u (to + j) 0 ⊕ get_or u (mid + j) 0)
    r = q.second

    in_u : mid + l < length u
    in_u = omega (arith, p.size)

    -- what is read at `from` was not written
    read : get_or t (from + l) 0 ≡ get_or u (from + l) 0
    read = by_order (get_or t (from + l) 0 ≡ get_or u (from + l) 0) from to (λ b. r.before (from + l) (omega (arith, apart b))) (λ b. r.after (from + l) (omega arith))

    y : Put (set u (mid + l) x) (set t (mid + l) x) to l (λ j. get_or u (to + j) 0 ⊕ get_or u (mid + j) 0)
    y = put_beside (mid + l) x (omega arith) in_u r
