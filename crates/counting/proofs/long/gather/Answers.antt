-- `counting::long::gather` meets its contract. The invariant: the bytes before j have the eight parts or-ed to them, the others are as they were.
use mathlib.Core.Path.{◌≡◌, ap, subst}
use Prim.Native.Nat.{ℕ, ◌+◌}
use lib.ListN.{get_or, set}
use Rattle.cells.specs.Runs.{Put}
use Rattle.cells.proofs.Puts.{put_one, put_count}
use Rattle.counting.proofs.Gathers.{ored, gathered_parts}
use borrow.Author.Rules.{rules}
use native.Mathlib.Omega.{arith}
use Rattle.counting.proofs.long.gather.Goals as goal

pub loop-j-preserved : goal.loop-j-preserved
unfolding ored
loop-j-preserved c =
    let x = c.args.o.now in
    let y = c.args.acc.now in
    let o = c.loop-j.o in
    let j = c.loop-j.j in
    let p = c.loop-j.invariant.2 in
    let e : 0 + j ≡ j = omega arith in (
      search rules,
      omega arith,
      subst (λ (n : ℕ). Put x (set o n (ored (get_or o j 0) y j 7)) 0 (j + 1) (λ l. ored (get_or x l 0) y l 7)) e
          (put_one x o 0 j (ored (get_or o j 0) y j 7) (λ l. ored (get_or x l 0) y l 7) (omega arith) (ap (λ (v : ℕ). ored v y j 7) (p.after j (omega arith))) p),
    )

pub returns : goal.returns
returns c =
    gathered_parts c.args.acc.now c.requires.0 (put_count c.loop-j.invariant.2 (omega arith))
