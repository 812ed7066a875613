-- `sums::fill_line` meets its contract: the places that are found are those of the line.
use mathlib.Core.Path.{ap, ap₂, ◌∙◌}
use Prim.Native.Nat.{ℕ}
use Rattle.parity.specs.Xor.{◌⊕◌}
use Rattle.parity.proofs.Xor.{zero_⊕}
use Rattle.cells.proofs.Puts.{put_same}
use Rattle.lines.proofs.Places.{total_none, total_part}
use Rattle.sums.specs.Sums.{window_of}
use Rattle.sums.proofs.Sweeps.{begun_at}
use native.Mathlib.Omega.{arith}
use Rattle.sums.proofs.fill_line.Goals as goal

pub returns : goal.returns
returns c =
    let a = c.args in
    let s = a.s.now in
    let y = c.find_line-n in
    put_same c.fill_places.ensures (λ l h.
    ap₂ ◌⊕◌ (begun_at a.columns a.seed a.to l a.w.now c.begin_at.ensures)
    (total_part y.new.at y.result (omega (arith, y.ensures.most, y.ensures.size, c.requires.group, c.requires.order)) s l ∙ y.ensures.sums s l
    ∙ ap (λ (v : ℕ). v ⊕ window_of a.g s a.slant a.i a.columns l) (total_none _ s l) ∙ zero_⊕ (window_of a.g s a.slant a.i a.columns l)))
