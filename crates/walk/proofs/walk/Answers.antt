-- `walk::walk` meets its contract. The invariant: r is the row come to after n steps, and the rows come to so far are parted, the others mixed still.
use mathlib.Core.Path.{◌≡◌, refl, sym, ap, ◌∙◌, subst}
use Prim.Native.Nat.{ℕ, ◌-◌, ◌<◌}
use native.Mathlib.Numerals.{add-one}
use Rattle.walk.proofs.Rows.{visit, visit_start, visit_next, visit_lt, visit_real}
use Rattle.walk.proofs.Halves.{Halves, halves_none, halves_more, halves_all}
use native.Mathlib.Omega.{arith}
use Rattle.walk.proofs.walk.Goals as goal

pub loop-n-init : goal.loop-n-init
loop-n-init c =
    let a = c.args in (
      refl,
      omega arith,
      sym (visit_start a.g.m a.delta c.requires.1.big),
      halves_none a.g.m a.delta c.requires.1.big c.requires.2 c.requires.3 a.g.b,
    )

pub row_above-to-requires : goal.row_above-to-requires
row_above-to-requires c =
    let y = c.loop-n in
    (subst (λ (x : ℕ). x < c.args.g.m) (sym y.invariant.2) (visit_lt c.args.g.m c.args.delta c.requires.1.big y.n), omega arith, c.requires.1.few)

pub step-requires : goal.step-requires
step-requires c =
    let a = c.args in
    let y = c.loop-n in
    let e = visit_next a.g.m a.delta y.n y.invariant.2 c.row_above-to.ensures in (
      omega (arith, y.invariant.3.size),
      c.requires.1,
      subst (λ (x : ℕ). x < a.g.m - 1) (sym e) (visit_real a.g.m a.delta c.requires.1.big c.requires.3 y.n (omega arith)),
    )

pub loop-n-preserved : goal.loop-n-preserved
loop-n-preserved c =
    let a = c.args in
    let y = c.loop-n in
    let e = visit_next a.g.m a.delta y.n y.invariant.2 c.row_above-to.ensures in (
      y.invariant.0,
      omega arith,
      e ∙ ap (visit a.g.m a.delta) (sym (add-one y.n)),
      halves_more a.g.m a.delta c.requires.1.big c.requires.2 c.requires.3 a.g.b (omega arith) y.invariant.2 e (omega arith) c.step.ensures y.invariant.3,
    )

pub shape_of-w : goal.shape_of-w
shape_of-w c = c.loop-n.invariant.3.size

pub returns : goal.returns
returns c =
    let a = c.args in
    let y = c.loop-n in
    let e : y.n ≡ a.g.m - 1 = omega arith in
    halves_all a.g.m a.delta c.requires.1.big c.requires.2 c.requires.3 a.g.b (omega (arith, c.requires.1.column))
    (subst (λ (x : ℕ). Halves a.g.m a.g.b a.delta x a.w.now y.w) e y.invariant.3)
