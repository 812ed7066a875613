-- `cells::xor_into` meets its contract. The invariant: the bytes before j are added to, the others as they were.
use mathlib.Core.Path.{◌≡◌, ap, subst}
use Prim.Native.Nat.{ℕ, ◌+◌}
use lib.ListN.{get_or, set}
use Rattle.parity.specs.Xor.{◌⊕◌}
use Rattle.cells.specs.Runs.{Put}
use Rattle.cells.proofs.Puts.{put_one}
use borrow.Author.Rules.{rules}
use native.Mathlib.Omega.{arith}
use Rattle.cells.proofs.xor_into.Goals as goal

pub loop-j-preserved : goal.loop-j-preserved
unfolding ◌⊕◌
loop-j-preserved c =
    let a = c.args.acc.now in
    let x = c.args.cell.now in
    let j = c.loop-j.j in
    let p = c.loop-j.invariant.2 in
    let e : 0 + j ≡ j = omega arith in (
      search rules,
      omega arith,
      subst (λ (n : ℕ). Put a (set c.loop-j.acc n (get_or c.loop-j.acc j 0 ⊕ get_or x j 0)) 0 (j + 1) (λ l. get_or a l 0 ⊕ get_or x l 0)) e
          (put_one a c.loop-j.acc 0 j (get_or c.loop-j.acc j 0 ⊕ get_or x j 0) (λ l. get_or a l 0 ⊕ get_or x l 0) (omega arith) (ap (λ (v : ℕ). v ⊕ get_or x j 0) (p.after j (omega arith))) p),
    )
