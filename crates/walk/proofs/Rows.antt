-- The rows in the order in which the walk comes to them: row m - 1 first, and each δ rows above the last, modulo m.
--   visit m δ n                 the row that it comes to after n steps
--   visit_start, visit_next     the first row, and the row after a row
--   visit_before                a row from the one after it
--   visit_lt, visit_real        every row is below m, and every row but the first is a real one
--   visit_apart, visit_all      it comes to no row twice, and to every real row
use mathlib.Core.Path.{◌≡◌, sym, ap, ◌∙◌}
use mathlib.Core.Logic.{◌≢◌}
use Prim.Native.Nat.{ℕ, zero, suc, ◌+◌, ◌-◌, ◌*◌, ◌%◌, ◌≤◌, ◌<◌}
use native.Mathlib.Nat.{mod-lt, mod-add-mod, add-mod_right, mod_self, mod-eq_of_lt, zero-mul, zero-add}
use native.Mathlib.Omega.{arith}
use Rattle.parity.specs.Equations.{back}
use Rattle.parity.proofs.Sum.{Order}
use Rattle.parity.proofs.Modular.{affine}
use Rattle.walk.specs.Walk.{Reaches}

unfoldable pub visit : ℕ → ℕ → ℕ → ℕ
visit m δ n = (n * (m - δ) + (m - 1)) % m

next : (m δ n : ℕ) → visit m δ (suc n) ≡ back m (visit m δ n) δ
unfolding visit back
next m δ n =
    let e : suc n * (m - δ) + (m - 1) ≡ n * (m - δ) + (m - 1) + (m - δ) = omega arith in
    rw (e, ← (mod-add-mod (n * (m - δ) + (m - 1)) m (m - δ)))

pub visit_next : (m δ n : ℕ) {r x : ℕ} → r ≡ visit m δ n → x ≡ back m r δ → x ≡ visit m δ (suc n)
visit_next m δ n e h = h ∙ ap (λ (r : ℕ). back m r δ) e ∙ sym (next m δ n)

module _ (m δ : ℕ) (big : 1 < m) where
  pub visit_start : visit m δ 0 ≡ m - 1
  unfolding visit
  visit_start = rw (zero-mul (m - δ), zero-add (m - 1)) (mod-eq_of_lt (omega arith))

  pub visit_lt : (n : ℕ) → visit m δ n < m
  unfolding visit
  visit_lt n = mod-lt (n * (m - δ) + (m - 1)) (omega arith)

  pub visit_before : (n : ℕ) → δ ≤ m → (visit m δ (suc n) + δ) % m ≡ visit m δ n
  unfolding back
  visit_before n low =
      let e : visit m δ n + (m - δ) + δ ≡ visit m δ n + m = omega arith in
      ap (λ (x : ℕ). (x + δ) % m) (next m δ n)
      ∙ mod-add-mod (visit m δ n + (m - δ)) m δ
      ∙ ap (λ (x : ℕ). x % m) e
      ∙ add-mod_right (visit m δ n) m
      ∙ mod-eq_of_lt (visit_lt n)

  module _ (ok : Reaches m δ) where
    order : Order m (visit m δ) (λ i. (i + 1) * ok.inverse % m)
    unfolding visit
    order = affine m (m - δ) ok.inverse (m - 1) 1 big ok.undone (let e : m - 1 + 1 ≡ m = omega arith in rw e (mod_self m))

    pub visit_apart : (x y : ℕ) → x < m → y < m → visit m δ x ≡ visit m δ y → x ≡ y
    visit_apart x y hx hy e = sym (order.qp x hx) ∙ ap (λ (i : ℕ). (i + 1) * ok.inverse % m) e ∙ order.qp y hy

    pub visit_real : (n : ℕ) → n < m - 1 → visit m δ (suc n) < m - 1
    visit_real n h = omega (arith, visit_lt (suc n), later)
      where
        later : visit m δ (suc n) ≢ m - 1
        later e = let z : suc n ≡ 0 = visit_apart (suc n) 0 (omega arith) (omega arith) (e ∙ sym visit_start) in omega arith

    pub visit_all : (i : ℕ) → i < m - 1 → (n : ℕ) × (n < m - 1) × (visit m δ (suc n) ≡ i)
    visit_all i h = go ((i + 1) * ok.inverse % m) (order.back i (omega arith)) (order.pq i (omega arith))
      where
        go : (n : ℕ) → n < m → visit m δ n ≡ i → (n : ℕ) × (n < m - 1) × (visit m δ (suc n) ≡ i)
        go zero hn e = absurd (omega (arith, visit_start))
        go (suc n) hn e = (n, omega arith, e)
