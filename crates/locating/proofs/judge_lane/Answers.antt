-- `locating::judge_lane` meets its contract: m is at most 127, and h and d are zero, as lines over no column are.
use mathlib.Core.Path.{◌≡◌, ◌∙◌}
use mathlib.Core.List.{List}
use Prim.Native.Nat.{ℕ, ◌+◌, ◌<◌}
use lib.ListN.{get_or, replicate, get_or-replicate}
use Rattle.parity.specs.Stripe.{lane}
use Rattle.cells.proofs.Parts.{part, part_at}
use Rattle.lines.proofs.Places.{part_length}
use Rattle.locating.proofs.Summing.{summed_none}
use native.Mathlib.Omega.{arith}
use Rattle.locating.proofs.judge_lane.Goals as goal

pub compare_amounts-requires : goal.compare_amounts-requires
compare_amounts-requires c =
    let a = c.args in
    let p = c.requires in
    let zeros : List ℕ = replicate 127 0 in
    let size = part_length zeros a.g.m (omega (arith, p.0.laid.sized.few)) in
    let zero : (i : ℕ) → i < a.g.m → get_or (part zeros 0 a.g.m) i 0 ≡ 0 = λ i h. part_at zeros 0 a.g.m i (omega arith) ∙ get_or-replicate 127 (0 + i) 0 0 (omega (arith, p.0.laid.sized.few)) in (
      p.0,
      p.2,
      record { laid = p.0.laid; inside = p.1; room = size },
      summed_none a.g.m (lane a.g.m a.g.b a.s.now a.l) (part zeros 0 a.g.m) (part zeros 0 a.g.m) size size zero zero,
    )
