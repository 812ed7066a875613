-- A cell that is filled from its seed lane after lane.
--   fill_next       after the lanes from x up to j those from j up to y, whose seeds are as they were
--   fill_all        the lanes from the first on
--   step_room, step_next   from j on there are n lanes more before the rest, and the rest is the same after them
use mathlib.Core.Path.{◌≡◌, sym, ap, ◌∙◌, subst}
use mathlib.Core.List.{List}
use Prim.Native.Nat.{ℕ, ◌+◌, ◌-◌, ◌%◌, ◌≤◌, ◌<◌}
use native.Mathlib.Nat.{mod-eq_of_lt, mod-eq-sub-mod}
use native.Mathlib.Omega.{arith}
use lib.ListN.{length}
use Rattle.parity.specs.Xor.{◌⊕◌}
use Rattle.cells.specs.Runs.{Put}
use Rattle.cells.proofs.Parts.{by_order}
use Rattle.cells.proofs.Puts.{put_next, put_same, put_count}
use Rattle.lines.specs.Places.{total}
use Rattle.sums.specs.Sums.{filled}

module _ (seed : ℕ) (s at : List ℕ) {to : ℕ} (later : to ≤ seed) (w t u : List ℕ) where
  pub fill_next : (x j y : ℕ) → x ≤ j → j ≤ y → Put w t (to + x) (j - x) (λ l. filled w seed s at (x + l)) → Put t u (to + j) (y - j) (λ l. filled t seed s at (j + l))
      → Put w u (to + x) (y - x) (λ l. filled w seed s at (x + l))
  fill_next x j y first next p q =
      let place : to + j ≡ to + x + (j - x) = omega arith in
      put_count (put_next w t u (to + x) (j - x) (j - x) (y - j) _ (λ l. filled t seed s at (x + l)) (omega arith) (omega arith) p
      (subst (λ (v : ℕ). Put t u v (y - j) (λ l. filled t seed s at (x + (j - x + l)))) place
      (put_same q (λ l h. let e : j + l ≡ x + (j - x + l) = omega arith in ap (filled t seed s at) e)))
      (λ l h₁ h₂. ap (λ (v : ℕ). v ⊕ total at (length at) s (x + l)) (p.after (seed + (x + l)) (omega arith)))) (omega arith)

-- the lanes from the first on
pub fill_all : {w t : List ℕ} {to n : ℕ} {f : ℕ → ℕ} → Put w t (to + 0) (n - 0) (λ l. f (0 + l)) → Put w t to n f
fill_all {w} {t} {to} {n} {f} p =
    let e : to + 0 ≡ to = omega arith in
    put_count (subst (λ (x : ℕ). Put w t x (n - 0) f) e (put_same p (λ l h. let z : 0 + l ≡ l = omega arith in ap f z))) (omega arith)

-- ---- n lanes at a time

module _ (n b j : ℕ) {r : ℕ} (rest : (b - j) % n ≡ r) (more : j < b - r) where
  pub step_room : j + n ≤ b
  step_room = by_order (j + n ≤ b) (b - j) n (λ few. absurd (omega (arith, mod-eq_of_lt few))) (λ some. omega arith)

  pub step_next : (b - (j + n)) % n ≡ r
  step_next =
      let e : b - (j + n) ≡ b - j - n = omega arith in
      ap (λ (x : ℕ). x % n) e ∙ sym (mod-eq-sub-mod (omega (arith, step_room))) ∙ rest
