-- For callers of `walk`.
--   reaches       below a prime every step but zero comes to every row
use Prim.Native.Nat.{ℕ, ◌-◌, ◌<◌}
use native.Mathlib.Omega.{arith}
use Rattle.parity.specs.Shape.{Prime}
use Rattle.parity.proofs.Prime.{inverse}
use Rattle.walk.specs.Walk.{Reaches}

pub reaches : {m δ : ℕ} → Prime m → 0 < δ → δ < m → Reaches m δ
reaches {m} {δ} prime pos low = let e = inverse m prime (m - δ) (omega arith) (omega arith) in record { inverse = e.0; undone = e.1 }
