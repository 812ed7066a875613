-- `restoring::total_cells` meets its contract. The invariant: the cells before x are summed.
use mathlib.Core.Path.{◌≡◌, ap, ◌∙◌}
use Prim.Native.Nat.{ℕ, ◌+◌}
use lib.ListN.{length, get_or}
use Rattle.parity.specs.Xor.{◌⊕◌}
use Rattle.parity.specs.Stripe.{lane}
use Rattle.parity.proofs.Xor.{zero_⊕}
use Rattle.cells.specs.Runs.{Put}
use Rattle.cells.proofs.Puts.{put_same, put_again}
use Rattle.lines.specs.Lines.{span}
use Rattle.lines.proofs.Lines.{span_join}
use Rattle.restoring.proofs.Steps.{past_end}
use native.Mathlib.Omega.{arith}
use Rattle.restoring.proofs.total_cells.Goals as goal
use Rattle.restoring.proofs.total_cells.Goals.{After-add_total, then-x-eq0, else-x-eq0}

-- the cells before a group's end are summed
totalled : (c : goal.After-add_total) → Put c.args.w.now c.add_total.new.w c.args.to c.args.b (λ l. span 2 (lane 2 c.args.b c.args.s.now l) 0 0 0 c.min.result)
totalled c =
    let a = c.args in
    let y = c.loop-x in
    let n = c.min.result in
    let f : ℕ → ℕ → ℕ → ℕ = λ x z l. span 2 (lane 2 a.b a.s.now l) 0 0 x z in
    (elim c.if-x-eq0.branch [
      | then-x-eq0 w ↦
          let p : Put a.w.now c.add_total.new.w a.to a.b (λ l. get_or a.w.now (length a.w.now + l) 0 ⊕ f 0 n l) = rw (y.invariant.1 w.if-x-eq0.true, w.seed-is, w.if-x-eq0.true) at c.add_total.ensures in
          put_same p (λ l h. ap (λ (x : ℕ). x ⊕ f 0 n l) (past_end a.w.now l (omega arith)) ∙ zero_⊕ _)
      | else-x-eq0 w ↦
          let p : Put y.w c.add_total.new.w a.to a.b (λ l. get_or y.w (a.to + l) 0 ⊕ f y.x n l) = rw w.seed-is at c.add_total.ensures in
          put_same (put_again (f y.x n) (y.invariant.2 w.if-x-eq0.false) p) (λ l h. span_join 2 (lane 2 a.b a.s.now l) 0 0 0 y.x n)
    ])

pub loop-x-preserved : goal.loop-x-preserved
loop-x-preserved c =
    let e : c.min.result ≡ c.loop-x.x + 8 = omega arith in
    (omega arith, λ z. absurd (omega arith), λ _. rw e at (totalled (goal.at.loop-x-preserved c).After-add_total))

pub returns-after-x-eq0 : goal.returns-after-x-eq0
returns-after-x-eq0 c =
    let e : c.min.result ≡ c.args.n = omega arith in
    rw e at (totalled (goal.at.returns-after-x-eq0 c).After-add_total)
