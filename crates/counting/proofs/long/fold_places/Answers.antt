-- `counting::long::fold_places` meets its contract. The invariant: o has gathered the lanes before j. The last block may gather some of them again.
use Prim.Native.Nat.{ℕ, ◌+◌, ◌-◌}
use lib.ListN.{length, get_or, get_or-replicate, replicate}
use Rattle.parity.specs.Xor.{◌⊕◌}
use Rattle.lines.specs.Places.{total}
use Rattle.counting.specs.Gather.{Gathered}
use Rattle.counting.proofs.Gathers.{gathered_next, gathered_tells}
use borrow.Author.Rules.{rules}
use native.Mathlib.Omega.{arith}
use Rattle.counting.proofs.long.fold_places.Goals as goal
use Rattle.counting.proofs.long.fold_places.Goals.{else-loop-j-test, then-loop-j-test+else-last-j-gt128}

pub loop-j-preserved : goal.loop-j-preserved
loop-j-preserved c =
    let y = c.loop-j in
    (omega arith, search rules, search rules, gathered_next y.j y.j 128 _ _ (omega arith) (omega arith) (omega arith) y.invariant.3 c.fold_part.ensures)

pub returns : goal.returns
returns c =
    let a = c.args in
    let y = c.loop-j in
    let f : ℕ → ℕ = λ l. get_or a.seed.now l 0 ⊕ total a.at.now (length a.at.now) a.s.now l in
    let all : Gathered (replicate 16 0) c.fold_part-2.new.o a.b f = (elim c.loop-j-test.branch [
      | else-loop-j-test w ↦ gathered_next y.j (a.b - 128) 128 a.b f (omega arith) (omega arith) (omega arith) y.invariant.3 (rw w.o-is at c.fold_part-2.ensures)
      | then-loop-j-test+else-last-j-gt128 w ↦
          let p = gathered_next y.j y.j 128 (y.j + 128) f (omega arith) (omega arith) (omega arith) y.invariant.3 w.fold_part.ensures in
          gathered_next (y.j + 128) (a.b - 128) 128 a.b f (omega arith) (omega arith) (omega arith) p (rw w.o-is at c.fold_part-2.ensures)
    ]) in
    gathered_tells (λ l h. get_or-replicate 16 l 0 0 h) all c.any.ensures
