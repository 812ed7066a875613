-- `inputs::lent::judge_lent` meets its contract: the verdict on the stripe is passed on, or the bench's length is tested, and then the map is judged.
use mathlib.Core.Path.{◌≡◌, ap, ◌∙◌}
use mathlib.Core.List.{List, ◌∷◌}
use Prim.Native.Nat.{ℕ, ◌*◌}
use native.Mathlib.Omega.{arith}
use Rattle.parity.specs.Shape.{bench_length}
use Rattle.maps.specs.declared.Map.{Map}
use Rattle.refusals.specs.Refusals.{Rule}
use Rattle.inputs.specs.Rules.{bench_length_differs, stripe_rules, map_rules}
use Rattle.refusals.proofs.Rules.{gives_first, gives_next, gives_refused, gives_after, handed_on}
use Rattle.inputs.proofs.ShapeLaws.{places_most, parts_most}
use Rattle.inputs.proofs.Tests.{Numbers, stripe_good}
use Rattle.inputs.proofs.lent.judge_lent.Goals as goal
use Rattle.inputs.proofs.lent.judge_lent.Goals.{In_ok-column, Else-held-column}

-- the rules after those of the stripe
abbrev last_rules : ℕ → ℕ → ℕ → Map → ℕ → List Rule
last_rules m k b map w = bench_length_differs m b w ∷ map_rules k map

good : (c : In_ok-column) → Numbers c.args.shape.m c.args.shape.k c.args.shape.b c.args.length c.in_ok-column.column
good c = stripe_good _ _ _ _ c.in_ok-column.ensures

bench_right : (c : Else-held-column) → c.args.held ≡ bench_length c.args.shape.m c.args.shape.b
unfolding bench_length
bench_right c = c.if-held-column.false ∙ ap (λ (n : ℕ). 2 * n) c.in_ok-column.ensures.column

pub returns-in_err-column : goal.returns-in_err-column
returns-in_err-column c =
    let a = c.args in
    rw (handed_on c.from_residual.result c.from_residual.ensures.1) (record {
      told = gives_refused (stripe_rules a.shape.m a.shape.k a.shape.b a.length) (last_rules a.shape.m a.shape.k a.shape.b a.map a.held) _ c.in_err-column.ensures.told;
      column = tt;
    })

pub overflow_mul-column : goal.overflow_mul-column
overflow_mul-column c = let n = good c in omega (arith, parts_most n.shape n.column 2 (omega arith))

pub returns-then-held-column : goal.returns-then-held-column
unfolding bench_length
returns-then-held-column c =
    let a = c.args in
    record {
      told = gives_after (stripe_rules a.shape.m a.shape.k a.shape.b a.length) (last_rules a.shape.m a.shape.k a.shape.b a.map a.held) _
          c.in_ok-column.ensures.told (gives_first (rw c.in_ok-column.ensures.column at c.if-held-column.true));
      column = tt;
    }

pub judge_map-requires : goal.judge_map-requires
judge_map-requires c = omega (arith, places_most (good (goal.at.judge_map-requires c).In_ok-column).shape)

pub returns-in_err-judge_map : goal.returns-in_err-judge_map
returns-in_err-judge_map c =
    let a = c.args in
    rw (handed_on c.from_residual-in_err-judge_map.result c.from_residual-in_err-judge_map.ensures.1) (record {
      told = gives_after (stripe_rules a.shape.m a.shape.k a.shape.b a.length) (last_rules a.shape.m a.shape.k a.shape.b a.map a.held) _
          c.in_ok-column.ensures.told (gives_next (λ n. n (bench_right (goal.at.returns-in_err-judge_map c).Else-held-column)) c.in_err-judge_map.ensures.told);
      column = tt;
    })

pub returns : goal.returns
returns c =
    let a = c.args in
    record {
      told = gives_after (stripe_rules a.shape.m a.shape.k a.shape.b a.length) (last_rules a.shape.m a.shape.k a.shape.b a.map a.held) _
          c.in_ok-column.ensures.told (gives_next (λ n. n (bench_right (goal.at.returns c).Else-held-column)) c.in_ok-judge_map.ensures.told);
      column = c.in_ok-column.ensures.column;
    }
