-- The rows modulo m, gone through in steps of δ: an order of all rows where δ has an inverse. Assumes nothing.
use mathlib.Core.Path.{◌≡◌, sym, ap, ◌∙◌}
use Prim.Native.Nat.{ℕ, ◌+◌, ◌*◌, ◌/◌, ◌%◌, ◌<◌}
use native.Mathlib.Nat.{mod-add-div', add-mul-mod_self_right, mul_comm, mod-add-mod, add-mod-mod, add-mod, mul-one, zero-mul, zero-mod, add-zero, mod-eq_of_lt, mod-lt}
use native.Mathlib.Omega.{arith}
use Rattle.parity.proofs.Sum.{Order}

pub mul_mod_l : (a b m : ℕ) → (a % m * b) % m ≡ a * b % m
mul_mod_l a b m = sym (add-mul-mod_self_right (a % m * b) (a / m * b) m) ∙ ap (λ x. x % m) e
  where
    e : a % m * b + a / m * b * m ≡ a * b
    e = omega (arith, ap (λ x. x * b) (mod-add-div' a m))

pub mul_mod_r : (a b m : ℕ) → (a * (b % m)) % m ≡ a * b % m
mul_mod_r a b m = rw (mul_comm a (b % m), mul_mod_l b a m, mul_comm b a)

module _ (m δ e c c' : ℕ) (big : 1 < m) (inv : δ * e % m ≡ 1) (opp : (c + c') % m ≡ 0) where
  -- a multiple of δ e is that multiple
  unit : (a b : ℕ) → (a * (δ * e) + b) % m ≡ (a + b) % m
  unit a b = rw (add-mod (a * (δ * e)) b m, ← (mul_mod_r a (δ * e) m), inv, mul-one a, ← (add-mod a b m))

  there_back : (j : ℕ) → j < m → ((j * δ + c) % m + c') * e % m ≡ j
  there_back j l =
      rw (
        ← (mul_mod_l ((j * δ + c) % m + c') e m),
        mod-add-mod (j * δ + c) m c',
        mul_mod_l (j * δ + c + c') e m,
        regroup,
        unit j ((c + c') * e),
        ← (add-mod-mod j ((c + c') * e) m),
        ← (mul_mod_l (c + c') e m),
        opp,
        zero-mul e,
        zero-mod m,
        add-zero j,
      ) (mod-eq_of_lt l)
    where
      regroup : (j * δ + c + c') * e ≡ j * (δ * e) + (c + c') * e
      regroup = omega arith

  back_there : (i : ℕ) → i < m → ((i + c') * e % m * δ + c) % m ≡ i
  back_there i l =
      rw (
        ← (mod-add-mod ((i + c') * e % m * δ) m c),
        mul_mod_l ((i + c') * e) δ m,
        mod-add-mod ((i + c') * e * δ) m c,
        regroup,
        unit (i + c') c,
        again,
        ← (add-mod-mod i (c + c') m),
        opp,
        add-zero i,
      ) (mod-eq_of_lt l)
    where
      regroup : (i + c') * e * δ + c ≡ (i + c') * (δ * e) + c
      regroup = omega arith

      again : i + c' + c ≡ i + (c + c')
      again = omega arith

  pub affine : Order m (λ j. (j * δ + c) % m) (λ i. (i + c') * e % m)
  affine = record {
    there = λ j l. mod-lt (j * δ + c) (omega arith);
    back = λ i l. mod-lt ((i + c') * e) (omega arith);
    pq = back_there;
    qp = there_back;
  }
