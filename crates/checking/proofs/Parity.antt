-- H begins within the stripe, and its place fits a number.
use mathlib.Core.Path.{◌≡◌, sym, ◌∙◌}
use Prim.Native.Nat.{ℕ, ◌+◌, ◌*◌, ◌≤◌}
use native.Mathlib.Nat.{add-mul}
use native.Mathlib.Omega.{arith}
use Rattle.parity.specs.Shape.{Shape, column_length, stripe_length}
use Rattle.parity.proofs.Shapes.{places_most, parts_most, whole_stripe}

pub parity_inside : {m k b c n : ℕ} → Shape m k b → c ≡ column_length m b → n ≡ stripe_length m k b → (k * c ≤ n) × (k * c ≤ 66576384)
parity_inside {m} {k} {b} {c} {n} shape column stripe =
    let whole : n ≡ (k + 2) * c = stripe ∙ sym (whole_stripe m k b column) in
    (omega (arith, add-mul k 2 c), omega (arith, add-mul k 2 c, parts_most shape column (k + 2) (places_most shape)))
