-- `encoding::put_columns` meets its contract: H is cleared and D gets its last cell in every row, and then the columns are added. The invariant: those below t are.
use Prim.Native.Nat.{◌-◌}
use Rattle.lines.proofs.Rows.{Grown}
use Rattle.encoding.specs.Sums.{spans}
use Rattle.encoding.proofs.put_columns.Given as goal

abbrev pub invariant-loop-t : goal.invariant-loop-t
invariant-loop-t l =
    Grown (l.g.m - 1) l.g.b 0 l.initial.h l.h (λ r x. spans l.g l.s 0 0 l.t r x) × Grown (l.g.m - 1) l.g.b 0 l.initial.d l.d (λ r x. spans l.g l.s 1 0 l.t r x)
