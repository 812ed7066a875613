-- `oarwillow::oarwillow_stripe_length` meets its contract: the shape check gives the bytes of a column, and there are k + 2 of them.
use mathlib.Core.Path.{◌≡◌, refl}
use Prim.Native.Nat.{◌+◌}
use native.Mathlib.Omega.{arith}
use Rattle.parity.specs.Shape.{Shape, column_length}
use Rattle.parity.proofs.Shapes.{whole_stripe}
use Rattle.inputs.proofs.ShapeLaws.{places_most, parts_most, judged_good}
use Rattle.oarwillow.proofs.Lengths.{no_shape}
use Rattle.oarwillow.proofs.oarwillow_stripe_length.Goals as goal
use Rattle.oarwillow.proofs.oarwillow_stripe_length.Goals.{In-Ok}

good : (c : In-Ok) → Shape c.args.m c.args.k c.args.b × (c.in-Ok.column ≡ column_length c.args.m c.args.b)
good c = judged_good _ _ _ c.in-Ok.ensures

pub overflow_add-result : goal.overflow_add-result
overflow_add-result c = omega (arith, places_most (good c).0)

pub overflow_mul-result : goal.overflow_mul-result
overflow_mul-result c =
    let (s, e) = good c in omega (arith, parts_most s e (c.args.k + 2) (places_most s))

pub returns-in-Ok : goal.returns-in-Ok
returns-in-Ok c =
    let (s, e) = good c in record { good = λ _. whole_stripe _ _ _ e; bad = λ no. absurd (no s) }

pub returns-in-Err : goal.returns-in-Err
returns-in-Err c = record { good = λ s. absurd (no_shape _ _ _ c.in-Err.ensures s); bad = λ _. refl }
