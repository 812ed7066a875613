-- `encoding::put_cell` meets its contract: the places that are listed are those of the line, and no column is left out.
use mathlib.Core.Path.{ap, ◌∙◌}
use Prim.Native.Nat.{ℕ, ◌+◌}
use lib.ListN.{get_or}
use Rattle.parity.specs.Xor.{◌⊕◌}
use Rattle.parity.specs.Stripe.{lane}
use Rattle.parity.proofs.Xor.{zero_⊕}
use Rattle.cells.proofs.Puts.{put_same}
use Rattle.lines.specs.Lines.{span}
use Rattle.lines.specs.Places.{without}
use Rattle.lines.proofs.Places.{total_none, total_part}
use Rattle.encoding.proofs.Ends.{every_column}
use native.Mathlib.Omega.{arith}
use Rattle.encoding.proofs.put_cell.Goals as goal

pub returns : goal.returns
returns c =
    let a = c.args in
    let s = a.s.now in
    let y = c.add_places-n in
    put_same c.fill_places.ensures (λ l h.
    let over_columns : ℕ = span a.g.m (without 129 129 (lane a.g.m a.g.b s l)) a.slant a.i a.t0 a.t1 in
    ap (λ (v : ℕ). get_or a.w.now (a.seed + l) 0 ⊕ v)
    (total_part y.new.at y.result (omega arith) s l
    ∙ y.ensures.sums s l ∙ ap (λ (v : ℕ). v ⊕ over_columns) (total_none _ s l) ∙ zero_⊕ over_columns
    ∙ every_column a.g.m (lane a.g.m a.g.b s l) a.slant a.i a.t0 a.t1 (omega arith) (omega arith)))
