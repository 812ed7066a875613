-- `locating::amounts::add_to_each` meets its contract. The invariant: the bytes so far are added to, the others as they were.
use mathlib.Core.Path.{◌≡◌, ap, subst}
use Prim.Native.Nat.{ℕ, ◌+◌}
use lib.ListN.{get_or, set}
use Rattle.parity.specs.Xor.{◌⊕◌}
use Rattle.cells.specs.Runs.{Put}
use Rattle.cells.proofs.Puts.{put_one}
use borrow.Author.Rules.{rules}
use native.Mathlib.Omega.{arith}
use Rattle.locating.proofs.amounts.add_to_each.Goals as goal

pub loop-byte-preserved : goal.loop-byte-preserved
unfolding ◌⊕◌
loop-byte-preserved c =
    let a = c.args in
    let y = c.loop-byte in
    let i = y.byte-index in
    let f : ℕ → ℕ = λ l. get_or a.d.now l 0 ⊕ a.v in
    let p = y.invariant in
    let e : 0 + i ≡ i = omega arith in
    subst (λ (n : ℕ). Put a.d.now (set y.d n (get_or y.d i 0 ⊕ a.v)) 0 (i + 1) f) e
    (put_one a.d.now y.d 0 i (get_or y.d i 0 ⊕ a.v) f (search rules) (ap (λ (x : ℕ). x ⊕ a.v) (p.after i (omega arith))) p)
