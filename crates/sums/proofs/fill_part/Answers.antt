-- `sums::fill_part` meets its contract: the seed, the cells added to it, and both copied to their place.
use mathlib.Core.Path.{◌≡◌, ap}
use Prim.Native.Nat.{ℕ, ◌+◌, ◌-◌}
use lib.ListN.{length, get_or}
use Rattle.parity.specs.Xor.{◌⊕◌}
use Rattle.cells.proofs.Puts.{put_same, put_copied, put_then_added}
use Rattle.lines.specs.Places.{total}
use native.Mathlib.Omega.{arith}
use Rattle.sums.proofs.fill_part.Goals as goal

pub returns : goal.returns
returns c =
    let a = c.args in
    let y = c.add_cells.new.acc in
    put_same (put_copied a.w.now a.acc.now y c.copy_into.new.dst (a.to + a.j) (a.to + a.j + length y - (a.to + a.j)) _ (omega (arith, c.requires.room.inside)) (omega arith) (put_then_added c.take.ensures c.add_cells.ensures) c.copy_into.ensures) (λ l h.
    let e : a.seed + a.j + l ≡ a.seed + (a.j + l) = omega arith in
    ap (λ (x : ℕ). get_or a.w.now x 0 ⊕ total a.at.now (length a.at.now) a.s.now (a.j + l)) e)
