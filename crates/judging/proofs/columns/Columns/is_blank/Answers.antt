-- `judging::columns::Columns::is_blank` meets its contract. The invariant: the columns before t are zeros.
use mathlib.Core.Path.{refl, sym, subst, ◌∙◌}
use mathlib.Core.Bool.{true≢false}
use Rattle.cells.specs.Runs.{Zeros}
use Rattle.inputs.proofs.ShapeLaws.{places_most}
use borrow.Author.Count.{below_more}
use borrow.Author.Rules.{rules}
use native.Mathlib.Omega.{arith}
use Rattle.judging.proofs.columns.Columns.is_blank.Goals as goal

pub overflow_add-t-end : goal.overflow_add-t-end
overflow_add-t-end c = omega (arith, places_most c.args.self.held.shape)

pub loop-t-init : goal.loop-t-init
loop-t-init c = (search rules, omega arith, λ u h. absurd (omega arith))

pub returns-then-not-is_zero : goal.returns-then-not-is_zero
returns-then-not-is_zero c = (
  λ e. absurd (true≢false (sym e)),
  λ h. absurd (true≢false (sym (c.is_zero.ensures.1 (subst Zeros (sym c.column.ensures.same) (h.columns c.loop-t.t (omega arith)))) ∙ c.if-not-is_zero.true)),
)

pub loop-t-preserved : goal.loop-t-preserved
loop-t-preserved c =
    (search rules, search rules, below_more _ _ c.loop-t.invariant.2 (subst Zeros c.column.ensures.same (c.is_zero.ensures.0 c.if-not-is_zero.false)))

pub returns : goal.returns
returns c = (λ _. record { columns = λ t h. c.loop-t.invariant.2 t (omega arith) }, λ _. refl)
