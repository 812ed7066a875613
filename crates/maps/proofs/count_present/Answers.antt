-- `maps::count_present` meets its contract. The loop's invariant: the places below t are counted.
use mathlib.Core.Path.{◌≡◌, refl, ap, ◌∙◌}
use Prim.Native.Nat.{ℕ, ◌+◌}
use native.Mathlib.Omega.{arith}
use mir.Val.{bool_byte}
use Rattle.parity.specs.Sum.{count}
use Rattle.parity.specs.Presence.{present}
use Rattle.parity.proofs.Count.{count_most}
use Rattle.maps.proofs.Present.{byte_most, present_more}
use Rattle.maps.proofs.count_present.Goals as goal

pub loop-t-init : goal.loop-t-init
unfolding count
loop-t-init c = (omega arith, refl)

pub overflow_add-c : goal.overflow_add-c
unfolding present
overflow_add-c c =
    let y = c.loop-t in
    omega (arith, y.invariant.1, count_most y.t (present c.args.places), byte_most (present c.args.places y.t))

pub loop-t-preserved : goal.loop-t-preserved
unfolding present
loop-t-preserved c =
    let y = c.loop-t in
    (omega arith, ap (λ (n : ℕ). n + bool_byte (present c.args.places y.t)) y.invariant.1 ∙ present_more y.t c.args.places)

pub overflow_cast-result : goal.overflow_cast-result
overflow_cast-result c = omega (arith, c.loop-t.invariant.1, count_most c.loop-t.t (present c.args.places))

pub returns : goal.returns
returns c =
    let y = c.loop-t in
    let e : y.t ≡ 129 = omega (arith, y.invariant.0, c.loop-t-test.false) in
    y.invariant.1 ∙ ap (λ (t : ℕ). count t (present c.args.places)) e
