-- `cells::add_within` meets its contract. The invariant: the first l bytes at `at` are added to, all others as they were.
use mathlib.Core.Path.{◌≡◌, ap₂}
use Prim.Native.Nat.{◌+◌}
use lib.ListN.{get_or, length-set}
use Rattle.parity.specs.Xor.{◌⊕◌}
use Rattle.cells.proofs.Parts.{by_order}
use Rattle.cells.proofs.Puts.{put_one}
use native.Mathlib.Omega.{arith}
use Rattle.cells.proofs.add_within.Goals as goal

pub loop-l-preserved : goal.loop-l-preserved
unfolding ◌⊕◌
loop-l-preserved c =
    let a = c.args in
    let w = a.w.now in
    let y = c.loop-l in
    let p = y.invariant.2 in
    let h = c.loop-l-test.true in (
      omega arith,
      simp length-set (omega arith),
      put_one w y.w a.at y.l (get_or y.w (a.at + y.l) 0 ⊕ get_or y.w (a.from + y.l) 0) (λ x. get_or w (a.at + x) 0 ⊕ get_or w (a.from + x) 0) (omega arith)
          (ap₂ ◌⊕◌ (p.after (a.at + y.l) (omega arith))
          (by_order (get_or y.w (a.from + y.l) 0 ≡ get_or w (a.from + y.l) 0) a.from a.at (λ q. p.before (a.from + y.l) (omega (arith, c.requires.2 q))) (λ q. p.after (a.from + y.l) (omega arith))))
          p,
    )
