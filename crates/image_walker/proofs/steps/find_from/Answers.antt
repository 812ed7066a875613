-- `image_walker::steps::find_from` meets its contract. The loop's invariant: no column from the place on and below t is present, and `start` is where the
-- body of column t would begin.
use mathlib.Core.Path.{sym, ◌∙◌}
use borrow.Author.Rules.{rules}
use native.Mathlib.Omega.{arith}
use Rattle.image_walker.proofs.Finding.{before_none, before_present, before_absent, before_most, absent_none, absent_more}
use Rattle.image_walker.proofs.steps.find_from.Goals as goal
use Rattle.image_walker.proofs.steps.find_from.Goals.{then-is_present+else-place-t, else-is_present}

pub loop-t-init : goal.loop-t-init
loop-t-init c = (search rules, before_none _ _ _, absent_none _ _)

pub overflow_add-start-then-is_present : goal.overflow_add-start-then-is_present
overflow_add-start-then-is_present c =
    let (columns, column) = c.requires in
    omega (arith, before_most _ _ _ _ c.loop-t.invariant.1 (omega (arith, c.loop-t.invariant.0)) columns column)

pub loop-t-preserved : goal.loop-t-preserved
loop-t-preserved c =
    let e = sym c.is_present.ensures in
    elim c.if-is_present.branch [
      | then-is_present+else-place-t w ↦ (search rules, w.start-is ∙ before_present _ _ _ _ c.loop-t.invariant.1 (e ∙ w.if-is_present.true), absent_more _ _ _ c.loop-t.invariant.2 (λ p. absurd (omega (arith, w.if-place-t.false))))
      | else-is_present w ↦ let absent = e ∙ w.if-is_present.false in (search rules, w.start-is ∙ before_absent _ _ _ _ c.loop-t.invariant.1 absent, absent_more _ _ _ c.loop-t.invariant.2 (λ _. absent))
    ]
