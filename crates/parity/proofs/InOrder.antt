-- Laws of items, and of `InOrder`: steps 0 to n - 1, one after another.
--   new_size, new_at     of n items' new bytes, end to end, those of item i are b, and where they stand
--   no_step, one_more    no step; one step more
--   kept_along           what every step keeps is kept, and each step can be read as another of which that lets it be one
--   order_one            where each step leads to one stripe, so do all
use mathlib.Core.Path.{◌≡◌, refl, sym, subst, ◌∙◌}
use mathlib.Core.List.{List}
use Prim.Native.Nat.{ℕ, zero, suc, ◌+◌, ◌*◌, ◌≤◌, ◌<◌}
use native.Mathlib.Nat.{suc-mul, mul-le-mul_right}
use native.Mathlib.Numerals.{add-one}
use native.Mathlib.Omega.{arith}
use lib.ListN.{length, get_or, drop, length-drop}
use lib.Seq.{get_or-take, get_or-drop, length-take-le}
use Rattle.parity.specs.Change.{new_cell, InOrder}

module _ (b : ℕ) (cells : List ℕ) (i : ℕ) where
  pub new_size : (n : ℕ) → i < n → length cells ≡ n * b → length (new_cell b cells i) ≡ b
  new_size n h full =
      let most : suc i * b ≤ n * b = mul-le-mul_right b h in
      let end : suc i * b ≡ i * b + b = suc-mul i b in
      length-take-le b (drop (i * b) cells) (simp length-drop (omega arith))

  pub new_at : (l : ℕ) → l < b → get_or (new_cell b cells i) l 0 ≡ get_or cells (i * b + l) 0
  new_at l h = get_or-take b (drop (i * b) cells) l 0 h ∙ get_or-drop (i * b) cells l 0

module _ (step : ℕ → List ℕ → List ℕ → Type 0) where
  pub no_step : (s : List ℕ) → InOrder step 0 s s
  unfolding InOrder
  no_step s = refl

  pub one_more : (n : ℕ) (s w v : List ℕ) → InOrder step n s w → step n w v → InOrder step (n + 1) s v
  unfolding InOrder
  one_more n s w v before last = subst (λ (i : ℕ). InOrder step i s v) (sym (add-one n)) (w, before, last)

  pub order_one : (n : ℕ) → ((i : ℕ) → i < n → (w x y : List ℕ) → step i w x → step i w y → x ≡ y) → (s x y : List ℕ) → InOrder step n s x → InOrder step n s y → x ≡ y
  unfolding InOrder
  order_one zero one s x y p q = p ∙ sym q
  order_one (suc n) one s x y (w, p, last) (z, q, other) =
      let e : w ≡ z = order_one n (λ i h. one i (omega arith)) s w z p q in
      one n (omega arith) w x y last (rw e other)

module _ (Keeps : List ℕ → Type 0) (step other : ℕ → List ℕ → List ℕ → Type 0) where
  pub kept_along : (n : ℕ) → ((i : ℕ) → i < n → (w v : List ℕ) → Keeps w → step i w v → Keeps v × other i w v) → (s v : List ℕ) → Keeps s → InOrder step n s v
      → Keeps v × InOrder other n s v
  unfolding InOrder
  kept_along zero keep s v start p = (rw p start, p)
  kept_along (suc n) keep s v start (w, p, last) =
      let (there, before) = kept_along n (λ i h. keep i (omega arith)) s w start p in
      let (after, read) = keep n (omega arith) w v there last in
      (after, (w, before, read))
