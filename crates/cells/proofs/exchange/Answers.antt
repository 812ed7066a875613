-- `cells::exchange` meets its contract. The invariant: the first l bytes are exchanged, all others as they were.
use mathlib.Core.Path.{refl}
use Prim.Native.Nat.{◌+◌}
use lib.ListN.{get_or, length-set}
use Rattle.parity.specs.Xor.{◌⊕◌}
use Rattle.cells.proofs.Exchanges.{exchanged_one}
use native.Mathlib.Omega.{arith}
use Rattle.cells.proofs.exchange.Goals as goal

pub loop-l-preserved : goal.loop-l-preserved
unfolding ◌⊕◌
loop-l-preserved c =
    let a = c.args in
    let y = c.loop-l in (
      omega arith,
      simp length-set (omega arith),
      exchanged_one a.w.now y.w a.at a.one a.two y.l (get_or y.w (a.at + y.l) 0 ⊕ get_or a.new.now y.l 0) (λ l. get_or a.new.now l 0)
          (omega (arith, c.requires.0)) (omega (arith, c.requires.1)) (omega (arith, c.requires.2)) y.invariant.2 refl,
    )
