-- `inputs::lent::judge_gaps` meets its contract: the verdict on what is lent is passed on, or the count is asked. That 4 is read from the count is a law of
-- true maps.
use mathlib.Core.Path.{◌≡◌, refl}
use mathlib.Core.List.{[], ◌∷◌}
use Prim.Native.Nat.{◌+◌, ◌≤◌}
use native.Mathlib.Omega.{arith}
use Rattle.parity.specs.Presence.{absences}
use Rattle.maps.specs.Truth.{absent_by_count}
use Rattle.inputs.specs.Rules.{too_many_absent, lent_rules}
use Rattle.refusals.proofs.Rules.{gives_first, gives_next, gives_refused, gives_after, handed_on}
use Rattle.inputs.proofs.ShapeLaws.{places_most}
use Rattle.maps.proofs.Truth.{absent_counted}
use Rattle.inputs.proofs.Tests.{Lent, lent_good}
use Rattle.inputs.proofs.lent.judge_gaps.Goals as goal
use Rattle.inputs.proofs.lent.judge_gaps.Goals.{In_ok-column}

good : (c : In_ok-column) → Lent c.args.shape.m c.args.shape.k c.args.shape.b c.args.length c.args.map c.args.held c.in_ok-column.column
good c = lent_good _ _ _ _ _ _ c.in_ok-column.ensures

-- how many columns are absent, by the count
absent : (c : In_ok-column) → (c.args.map.present ≤ c.args.shape.k + 2) × (absences c.args.shape.k c.args.map.places ≡ absent_by_count c.args.shape.k c.args.map)
absent c = let g = good c in absent_counted _ g.truth _ g.clear

pub returns-in_err-column : goal.returns-in_err-column
returns-in_err-column c =
    let a = c.args in
    rw (handed_on c.from_residual.result c.from_residual.ensures.1) (record {
      told = gives_refused (lent_rules a.shape.m a.shape.k a.shape.b a.map a.length a.held) (too_many_absent a.shape.k a.map ∷ []) _ c.in_err-column.ensures.told;
      good = tt;
    })

pub overflow_add-columns : goal.overflow_add-columns
overflow_add-columns c =
    omega (arith, places_most (good (goal.at.overflow_add-columns c).In_ok-column).numbers.shape)

pub overflow_sub-absent : goal.overflow_sub-absent
overflow_sub-absent c =
    omega (arith, (absent (goal.at.overflow_sub-absent c).In_ok-column).0, places_most (good (goal.at.overflow_sub-absent c).In_ok-column).numbers.shape)

pub returns-then-absent-gt2 : goal.returns-then-absent-gt2
returns-then-absent-gt2 c =
    let a = c.args in
    let e = (absent (goal.at.returns-then-absent-gt2 c).In_ok-column).1 in
    record {
      told = gives_after (lent_rules a.shape.m a.shape.k a.shape.b a.map a.length a.held) (too_many_absent a.shape.k a.map ∷ []) _
          (good (goal.at.returns-then-absent-gt2 c).In_ok-column).tests (gives_first (omega (arith, c.if-absent-gt2.true)));
      good = tt;
    }

pub returns : goal.returns
returns c =
    let a = c.args in
    let e = (absent (goal.at.returns c).In_ok-column).1 in
    record {
      told = gives_after (lent_rules a.shape.m a.shape.k a.shape.b a.map a.length a.held) (too_many_absent a.shape.k a.map ∷ []) _
          (good (goal.at.returns c).In_ok-column).tests (gives_next (λ h. omega (arith, c.if-absent-gt2.false)) refl);
      good = ((good (goal.at.returns c).In_ok-column).numbers.column, c.gaps.ensures.some (places_most (good (goal.at.returns c).In_ok-column).numbers.shape));
    }
