-- `encoding::put_group` meets its contract. The invariant: the rows before i are done.
use Prim.Native.Nat.{◌*◌}
use Rattle.parity.specs.Xor.{◌⊕◌}
use Rattle.lines.specs.Rows.{Lined}
use Rattle.sums.specs.Sums.{begun}
use Rattle.encoding.specs.Sums.{over, spans}
use Rattle.encoding.proofs.put_group.Given as goal

abbrev pub invariant-loop-i : goal.invariant-loop-i
invariant-loop-i it =
    Lined it.i it.g.b 0 it.initial.h it.h (λ r l. begun (over it.t0 it.t1) it.initial.h it.none (r * it.g.b) l ⊕ spans it.g it.s 0 it.t0 it.t1 r l)
    × Lined it.i it.g.b 0 it.initial.d it.d (λ r l. begun (over it.t0 it.t1) it.initial.d it.last (r * it.g.b) l ⊕ spans it.g it.s 1 it.t0 it.t1 r l)
