-- `locating::compare_amounts` meets its contract: h and d become the amounts of lane l, and in a lane that breaks at most one column can be wrong.
use mathlib.Core.Path.{◌≡◌, ap, ◌∙◌}
use Prim.Native.Nat.{ℕ, ◌+◌, ◌-◌}
use lib.ListN.{get_or}
use Rattle.parity.specs.Stripe.{lane}
use Rattle.cells.proofs.Parts.{part, part_at}
use Rattle.locating.proofs.Summing.{rows_are}
use Rattle.locating.proofs.Fitting.{judged}
use native.Mathlib.Omega.{arith}
use Rattle.locating.proofs.compare_amounts.Goals as goal

pub returns : goal.returns
returns c =
    let a = c.args in
    let q = c.requires.0 in
    let r = c.find_amounts in
    let lane = lane a.g.m a.g.b a.s.now a.l in
    judged a.g.m a.g.k a.g.b q.laid.few q.odd q.prime a.s.now a.l c.requires.2.inside c.requires.1 (λ i. get_or r.new.h i 0) (λ i. get_or (part r.new.d 0 (a.g.m - 1)) i 0)
    (rows_are a.g.m a.g.k lane r.ensures)
    (λ i h. let e : 0 + i ≡ i = omega arith in part_at r.new.d 0 (a.g.m - 1) i (omega arith) ∙ ap (λ (x : ℕ). get_or r.new.d x 0) e ∙ r.ensures.diagonal i h) c.find_column.result c.find_column.ensures
