-- `maps::find_top` meets its contract. The loop's invariant: the top is that of the places below t.
use mathlib.Core.Path.{◌≡◌}
use Prim.Native.Nat.{◌+◌}
use native.Mathlib.Nat.{mul-le-mul_right, one-mul}
use native.Mathlib.Omega.{arith}
use borrow.Author.Rules.{rules}
use Rattle.parity.specs.Presence.{present}
use Rattle.maps.proofs.Present.{byte_most}
use Rattle.maps.proofs.Truth.{topped_none, topped_more}
use Rattle.maps.proofs.find_top.Goals as goal

pub loop-t-init : goal.loop-t-init
loop-t-init c = (search rules, topped_none _)

pub overflow_mul-places : goal.overflow_mul-places
unfolding present
overflow_mul-places c =
    let y = c.loop-t in
    let most = mul-le-mul_right (y.t + 1) (byte_most (present c.args.places y.t)) in
    omega (arith, most, one-mul (y.t + 1), y.invariant.0)

pub loop-t-preserved : goal.loop-t-preserved
unfolding present
loop-t-preserved c = (search rules, topped_more _ _ _ _ c.loop-t.invariant.1 c.larger-top.ensures)

pub returns : goal.returns
returns c = let e : c.loop-t.t ≡ 129 = omega arith in rw e at c.loop-t.invariant.1
