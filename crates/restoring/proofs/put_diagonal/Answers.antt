-- `restoring::put_diagonal` meets its contract: the diagonal is summed from nothing.
use mathlib.Core.Path.{ap₂, ◌∙◌}
use Rattle.parity.specs.Xor.{◌⊕◌}
use Rattle.parity.proofs.Xor.{zero_⊕}
use Rattle.cells.proofs.Puts.{put_same}
use Rattle.restoring.specs.Left.{diagonal_left}
use Rattle.restoring.proofs.Steps.{past_end, diagonal_left_lem}
use native.Mathlib.Omega.{arith}
use Rattle.restoring.proofs.put_diagonal.Goals as goal

pub returns : goal.returns
returns c =
    let a = c.args in
    put_same c.sum_line.ensures (λ l h.
    ap₂ ◌⊕◌ (past_end a.w.now l (omega arith)) (diagonal_left_lem a.g a.u a.v a.s.now a.d l c.all_but.ensures) ∙ zero_⊕ (diagonal_left a.g a.u a.v a.s.now a.d l))
