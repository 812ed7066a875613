-- `restoring::add_total` meets its contract: the cells are those of a row whose columns are cells.
use mathlib.Core.Path.{ap, ◌∙◌}
use Prim.Native.Nat.{ℕ, ◌+◌}
use lib.ListN.{get_or}
use Rattle.parity.specs.Xor.{◌⊕◌}
use Rattle.parity.specs.Stripe.{lane}
use Rattle.parity.proofs.Xor.{zero_⊕}
use Rattle.cells.proofs.Puts.{put_same}
use Rattle.lines.specs.Lines.{span}
use Rattle.lines.specs.Places.{without}
use Rattle.lines.proofs.Places.{total_none, total_part, without_span}
use Rattle.lines.proofs.Whole.{one_row}
use native.Mathlib.Omega.{arith}
use Rattle.restoring.proofs.add_total.Goals as goal

pub add_places-n-requires : goal.add_places-n-requires
add_places-n-requires c =
    let p = c.requires in
    (omega (arith, p.group, p.order), one_row p.filled p.short, record { slant = omega arith; inside = omega arith; order = p.order; within = omega arith; most = p.most; columns = omega arith })

pub returns : goal.returns
returns c =
    let a = c.args in
    let s = a.s.now in
    let y = c.add_places-n in
    put_same c.fill_places.ensures (λ l h.
    ap (λ (v : ℕ). get_or a.w.now (a.seed + l) 0 ⊕ v)
    (total_part y.new.at y.result (omega (arith, y.ensures.most, y.ensures.size, c.requires.group)) s l ∙ y.ensures.sums s l
    ∙ ap (λ (v : ℕ). v ⊕ span 2 (without 256 256 (lane 2 a.b s l)) 0 0 a.x a.y) (total_none _ s l) ∙ zero_⊕ (span 2 (without 256 256 (lane 2 a.b s l)) 0 0 a.x a.y)
    ∙ without_span 2 256 256 (lane 2 a.b s l) 0 0 a.x a.y c.requires.order (λ t h₁ h₂. (λ q. absurd (omega (arith, c.requires.most)), λ q. absurd (omega (arith, c.requires.most))))))
