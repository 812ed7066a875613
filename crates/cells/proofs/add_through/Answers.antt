-- `cells::add_through` meets its contract. The invariant: the first l bytes of each run are added to, all others as they were.
use mathlib.Core.Path.{refl}
use Prim.Native.Nat.{◌+◌}
use lib.ListN.{get_or, length-set}
use Rattle.parity.specs.Xor.{◌⊕◌}
use Rattle.cells.proofs.Puts.{through_one}
use native.Mathlib.Omega.{arith}
use Rattle.cells.proofs.add_through.Goals as goal

pub loop-l-preserved : goal.loop-l-preserved
unfolding ◌⊕◌
loop-l-preserved c =
    let a = c.args in
    let y = c.loop-l in (
      omega arith,
      simp length-set (omega arith),
      through_one a.w.now y.w a.from a.mid a.to a.n y.l (get_or y.w (a.mid + y.l) 0 ⊕ get_or y.w (a.from + y.l) 0) c.requires.0 c.requires.1 c.requires.2 c.requires.3 (omega arith) refl y.invariant.2,
    )
