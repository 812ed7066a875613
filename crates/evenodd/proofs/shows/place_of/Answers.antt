-- `evenodd::shows::place_of` meets its contract: a law of show for each way out, from what the tests on the way there said.
use mathlib.Core.Path.{sym, ◌∙◌}
use native.Mathlib.Omega.{arith}
use lib.ListN.{length}
use Rattle.inputs.proofs.ShapeLaws.{places_most}
use Rattle.inputs.proofs.Tests.{Lent, lent_good}
use Rattle.maps.proofs.Truth.{absent_counted}
use Rattle.evenodd.proofs.Shown.{NotRefused, show_4, show_named, start_most, show_stripe, show_first, show_second}
use Rattle.evenodd.proofs.shows.place_of.Goals as goal
use Rattle.evenodd.proofs.shows.place_of.Goals.{In_ok-length, Else-absent-gt2}

good : (c : In_ok-length) → Lent c.args.shape.m c.args.shape.k c.args.shape.b (length c.args.stripe.now) c.args.map (length c.args.bench.now) c.in_ok-length.length
good c = lent_good _ _ _ _ _ _ c.in_ok-length.ensures

-- past every refusal
passed : (c : Else-absent-gt2) → let a = c.args in NotRefused a.shape.m a.shape.k a.shape.b a.map a.stripe.now a.bench.now a.column
passed c = show_named _ _ _ _ _ _ _ (lent_good _ _ _ _ _ _ c.in_ok-length.ensures) c.if-columns-column.false c.if-absent-gt2.false

pub overflow_sub-absent : goal.overflow_sub-absent
overflow_sub-absent c =
    let lent = good (goal.at.overflow_sub-absent c).In_ok-length in omega (arith, (absent_counted _ lent.truth _ lent.clear).0, places_most lent.numbers.shape)

pub returns-then-absent-gt2 : goal.returns-then-absent-gt2
returns-then-absent-gt2 c = show_4 _ _ _ _ _ _ _ (good (goal.at.returns-then-absent-gt2 c).In_ok-length) (omega arith) c.if-absent-gt2.true

pub overflow_mul-result : goal.overflow_mul-result
overflow_mul-result c = omega (arith, start_most (passed (goal.at.overflow_mul-result c).Else-absent-gt2) c.in_ok-length.ensures.column)

pub returns-then-is_present : goal.returns-then-is_present
returns-then-is_present c =
    show_stripe (passed (goal.at.returns-then-is_present c).Else-absent-gt2) c.in_ok-length.ensures.column (sym c.is_present.ensures ∙ c.if-is_present.true)

pub returns-then-column-gaps : goal.returns-then-column-gaps
returns-then-column-gaps c =
    let p = passed (goal.at.returns-then-column-gaps c).Else-absent-gt2 in
    show_first p c.in_ok-length.ensures.column (c.gaps-gaps.ensures.some (places_most p.shape)) (sym c.is_present.ensures ∙ c.if-is_present.false) c.if-column-gaps.true

pub returns : goal.returns
returns c =
    let p = passed (goal.at.returns c).Else-absent-gt2 in
    show_second p c.in_ok-length.ensures.column (c.gaps-gaps.ensures.some (places_most p.shape)) (sym c.is_present.ensures ∙ c.if-is_present.false) c.if-column-gaps.false
