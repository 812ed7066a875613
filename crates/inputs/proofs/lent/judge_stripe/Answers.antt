-- `inputs::lent::judge_stripe` meets its contract: the verdict on the numbers is passed on, or the length is tested.
use mathlib.Core.Path.{◌≡◌, refl, ap, ◌∙◌}
use mathlib.Core.List.{[], ◌∷◌}
use Prim.Native.Nat.{ℕ, ◌+◌, ◌*◌}
use native.Mathlib.Omega.{arith}
use Rattle.parity.specs.Shape.{Shape, column_length, stripe_length}
use Rattle.inputs.specs.Rules.{stripe_length_differs, shape_rules}
use Rattle.refusals.proofs.Rules.{gives_first, gives_next, gives_refused, handed_on}
use Rattle.inputs.proofs.ShapeLaws.{places_most, parts_most, judged_good, after_shape}
use Rattle.inputs.proofs.lent.judge_stripe.Goals as goal
use Rattle.inputs.proofs.lent.judge_stripe.Goals.{In_ok-column}

good : (c : In_ok-column) → Shape c.args.shape.m c.args.shape.k c.args.shape.b × (c.in_ok-column.column ≡ column_length c.args.shape.m c.args.shape.b)
good c = judged_good _ _ _ c.in_ok-column.ensures

pub returns-in_err-column : goal.returns-in_err-column
returns-in_err-column c =
    let a = c.args in
    rw (handed_on c.from_residual.result c.from_residual.ensures.1) (record {
      told = gives_refused (shape_rules a.shape.m a.shape.k a.shape.b) (stripe_length_differs a.shape.m a.shape.k a.shape.b a.length ∷ []) _ c.in_err-column.ensures.told;
      column = tt;
    })

pub overflow_add-shape : goal.overflow_add-shape
overflow_add-shape c = omega (arith, places_most (good (goal.at.overflow_add-shape c).In_ok-column).0)

pub overflow_mul-shape : goal.overflow_mul-shape
overflow_mul-shape c = let (s, e) = good (goal.at.overflow_mul-shape c).In_ok-column in omega (arith, parts_most s e (c.args.shape.k + 2) (places_most s))

pub returns-then-length-shape : goal.returns-then-length-shape
unfolding stripe_length
returns-then-length-shape c =
    let a = c.args in
    let (s, e) = good (goal.at.returns-then-length-shape c).In_ok-column in
    record { told = after_shape a.shape.m a.shape.k a.shape.b (stripe_length_differs a.shape.m a.shape.k a.shape.b a.length ∷ []) _ s (gives_first (rw e at c.if-length-shape.true)); column = tt }

pub returns : goal.returns
unfolding stripe_length
returns c =
    let a = c.args in
    let (s, e) = good (goal.at.returns c).In_ok-column in
    record { told = after_shape a.shape.m a.shape.k a.shape.b (stripe_length_differs a.shape.m a.shape.k a.shape.b a.length ∷ []) _ s (gives_next (λ n. n (c.if-length-shape.false ∙ ap (λ (x : ℕ). (a.shape.k + 2) * x) e)) refl); column = e }
