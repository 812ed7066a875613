-- How much an image that is short asks for.
--   small   an image of at most 16,384 bytes with at most two columns absent: a column is at most 16,352 bytes, and so are k of them
--   most    so its shape asks for a stripe of at most 49,056 bytes and a bench of at most 32,704
use mathlib.Core.Path.{◌≡◌, refl}
use mathlib.Core.Bool.{Bool, true, false, not, cond}
use mathlib.Core.List.{List}
use Prim.Native.Nat.{ℕ, zero, suc, ◌+◌, ◌*◌, ◌≤◌}
use native.Mathlib.Nat.{add-mul, mul-le-mul_right}
use native.Mathlib.Omega.{arith}
use lib.ListN.{length}
use Rattle.parity.specs.Sum.{count}
use Rattle.parity.specs.Shape.{column_length, stripe_length, bench_length}
use Rattle.parity.specs.Presence.{present, absences}
use Rattle.maps.specs.Absent.{absent_below}
use Rattle.maps.proofs.Presence.{absences_below}
use Rattle.image.specs.Format.{present_below}
use Rattle.image.proofs.Filling.{Good}
use Rattle.image.proofs.Laid.{image_laid}

-- each place is present or absent
present_absent : (n : ℕ) (map : List Bool) → present_below n map + absent_below n map ≡ n
unfolding present_below absent_below count
present_absent zero map = refl
present_absent (suc n) map = go (present map n) (count n (present map)) (count n (λ x. not (present map x))) (present_absent n map)
  where
    go : (p : Bool) (x y : ℕ) → x + y ≡ n → cond p (suc x) x + cond (not p) (suc y) y ≡ suc n
    go true x y e = omega arith
    go false x y e = omega arith

module _ {image : List ℕ} {m k b : ℕ} {map : List Bool} (g : Good image m k b map) (short : length image ≤ 16384) (few : absences k map ≤ 2) where
  pub small : (k * column_length m b ≤ 16352) × (column_length m b ≤ 16352)
  small =
      let c = column_length m b in
      let w = g.formed in
      let size = (image_laid m k b map w.stripe w.sized.whole image w.same).size in
      let there : k ≤ present_below (k + 2) map = omega (arith, present_absent (k + 2) map, absences_below k map) in
      let some : k * c ≤ present_below (k + 2) map * c = mul-le-mul_right c there in
      let one : 1 * c ≤ k * c = mul-le-mul_right c g.shape.real in
      let real = g.shape.real in
      (omega arith, omega arith)

  pub most : (stripe_length m k b ≤ 49056) × (bench_length m b ≤ 32704)
  unfolding stripe_length bench_length
  most = let (all, one) = small in (omega (arith, add-mul k 2 (column_length m b)), omega arith)
