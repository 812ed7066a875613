-- `counting::testing::sum_last` meets its contract: nothing, and then the cells of line m - 1.
use mathlib.Core.Path.{refl, ap, ◌∙◌, subst}
use Prim.Native.Nat.{ℕ, ◌+◌, ◌-◌}
use lib.ListN.{length, get_or-eq_default}
use Rattle.parity.specs.Xor.{◌⊕◌}
use Rattle.parity.proofs.Xor.{zero_⊕}
use Rattle.cells.specs.Runs.{Put}
use Rattle.cells.proofs.Puts.{put_same}
use Rattle.lines.specs.declared.Columns.{Columns}
use Rattle.sums.specs.Sums.{begun}
use Rattle.sums.proofs.Sweeps.{begun_first}
use Rattle.counting.specs.Counting.{test_line, piece_of}
use native.Mathlib.Omega.{arith}
use Rattle.counting.proofs.testing.sum_last.Goals as goal

pub returns : goal.returns
returns c =
    let a = c.args in
    let w = a.w.now in
    put_same (subst (λ (p : Columns). Put w c.grow_line.new.w a.to a.g.b (λ l. begun p w (length w) a.to l ⊕ piece_of a.g a.s.now (a.g.m - 1) p l)) c.all_but.ensures c.grow_line.ensures) (λ l h.
    ap (λ (x : ℕ). x ⊕ test_line a.g a.s.now a.u (a.g.m - 1) l) (begun_first _ (length w) a.to l w refl ∙ get_or-eq_default w 0 {n = length w + l} (omega arith)) ∙ zero_⊕ _)
