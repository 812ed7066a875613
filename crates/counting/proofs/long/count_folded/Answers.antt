-- `counting::long::count_folded` meets its contract. The invariant: what was found of the lines before d.
use mathlib.Core.Path.{◌≡◌}
use Prim.Native.Nat.{ℕ}
use lib.ListN.{length, get_or}
use Rattle.parity.specs.Xor.{◌⊕◌}
use Rattle.counting.specs.Counting.{test_line}
use Rattle.counting.proofs.Found.{found_begin, found_same, found_more, found_as}
use borrow.Author.Rules.{rules}
use native.Mathlib.Omega.{arith}
use Rattle.counting.proofs.long.count_folded.Goals as goal
use Rattle.counting.proofs.long.count_folded.Goals.{then-fold_line-ne0+else-enough-count, else-fold_line-ne0}

pub loop-d-init : goal.loop-d-init
loop-d-init c = (search rules, search rules, search rules, found_begin _ _ _)

pub loop-d-preserved : goal.loop-d-preserved
loop-d-preserved c =
    let a = c.args in
    let y = c.loop-d in
    let r = c.fold_line in
    let f : ℕ → ℕ → ℕ = λ l d. get_or a.seed.now l 0 ⊕ test_line a.g a.s.now a.u d l in
    let e : length r.new.at ≡ length a.at.now = omega (arith, y.invariant.0, r.auto) in
    (elim c.if-fold_line-ne0.branch [
      | then-fold_line-ne0+else-enough-count w ↦ (e, y.invariant.1, omega arith, found_as w.count-is w.last-is (found_more a.enough a.g.b f y.count y.last y.d y.invariant.3 r.result r.ensures w.if-fold_line-ne0.true))
      | else-fold_line-ne0 w ↦ (e, y.invariant.1, omega arith, found_as w.count-is w.last-is (found_same a.enough a.g.b f y.count y.last y.d y.invariant.3 r.result r.ensures w.if-fold_line-ne0.false))
    ])
