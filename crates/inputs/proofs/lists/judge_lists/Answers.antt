-- `inputs::lists::judge_lists` meets its contract: the verdict on the stripe is passed on, or the lengths of the lists are tested.
use mathlib.Core.Logic.{inl, inr}
use mathlib.Core.List.{[], ◌∷◌}
use Prim.Native.Nat.{◌*◌, ◌≤◌}
use native.Mathlib.Nat.{mul-le-mul_right}
use native.Mathlib.Omega.{arith}
use Rattle.inputs.specs.Rules.{wrong_lists, stripe_rules}
use Rattle.refusals.proofs.Rules.{gives_refused, handed_on}
use Rattle.inputs.proofs.Tests.{Numbers, stripe_good}
use Rattle.inputs.proofs.CellLists.{lists_refused, lists_passed}
use Rattle.inputs.proofs.lists.judge_lists.Goals as goal
use Rattle.inputs.proofs.lists.judge_lists.Goals.{In_ok-column}

good : (c : In_ok-column) → Numbers c.args.shape.m c.args.shape.k c.args.shape.b c.args.length c.in_ok-column.column
good c = stripe_good _ _ _ _ c.in_ok-column.ensures

pub returns-in_err-column : goal.returns-in_err-column
returns-in_err-column c =
    let a = c.args in
    rw (handed_on c.from_residual.result c.from_residual.ensures.1) (record {
      told = gives_refused (stripe_rules a.shape.m a.shape.k a.shape.b a.length) (wrong_lists a.shape.b a.columns a.rows a.cells ∷ []) _ c.in_err-column.ensures.told;
      column = tt;
    })

pub returns-then-rows-columns : goal.returns-then-rows-columns
returns-then-rows-columns c =
    let n = good (goal.at.returns-then-rows-columns c).In_ok-column in lists_refused _ _ _ _ _ _ _ n.shape n.stripe (inl c.if-rows-columns.true)

pub returns-then-columns-gt256 : goal.returns-then-columns-gt256
returns-then-columns-gt256 c =
    let n = good (goal.at.returns-then-columns-gt256 c).In_ok-column in lists_refused _ _ _ _ _ _ _ n.shape n.stripe (inr (inl c.if-columns-gt256.true))

pub overflow_mul-columns : goal.overflow_mul-columns
overflow_mul-columns c =
    let a = c.args in
    let most : a.columns * a.shape.b ≤ 256 * a.shape.b = mul-le-mul_right a.shape.b (omega (arith, c.if-columns-gt256.false)) in
    omega (arith, most, (good (goal.at.overflow_mul-columns c).In_ok-column).shape.short)

pub returns-then-cells-columns : goal.returns-then-cells-columns
returns-then-cells-columns c =
    let n = good (goal.at.returns-then-cells-columns c).In_ok-column in lists_refused _ _ _ _ _ _ _ n.shape n.stripe (inr (inr c.if-cells-columns.true))

pub returns : goal.returns
returns c =
    let n = good (goal.at.returns c).In_ok-column in
    record {
      told = (lists_passed _ _ _ _ _ _ _ n.shape n.stripe (record { even = c.if-rows-columns.false; few = omega (arith, c.if-columns-gt256.false); full = c.if-cells-columns.false }));
      column = n.column;
    }
