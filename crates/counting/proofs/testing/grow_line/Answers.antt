-- `counting::testing::grow_line` meets its contract: the cells at the places that were found add up to the piece.
use mathlib.Core.Path.{ap₂}
use Rattle.parity.specs.Xor.{◌⊕◌}
use Rattle.cells.proofs.Puts.{put_same}
use Rattle.sums.proofs.Sweeps.{begun_at}
use Rattle.counting.proofs.Breaking.{listed_total}
use Rattle.counting.proofs.Bands.{begin_first, begin_next}
use native.Mathlib.Omega.{arith}
use Rattle.counting.proofs.testing.grow_line.Goals as goal
use Rattle.counting.proofs.testing.grow_line.Goals.{then-columns-eq0, else-columns-eq0}

pub returns : goal.returns
returns c =
    let a = c.args in
    let e = listed_total c.find_piece-n.ensures (omega (arith, c.requires.0)) a.s.now in
    put_same c.fill_places.ensures (λ l h. ap₂ ◌⊕◌ (begun_at a.columns a.seed a.to l a.w.now (elim c.if-columns-eq0.branch [
      | then-columns-eq0 w ↦ begin_first a.seed a.to w.if-columns-eq0.true w.begin-is
      | else-columns-eq0 w ↦ begin_next a.seed a.to w.if-columns-eq0.false w.begin-is
    ])) (e l))
