-- `rewriting::rewrite_band` meets its contract: the band is restored elsewhere, and copied.
use mathlib.Core.Path.{◌≡◌, ap, ◌∙◌}
use Prim.Native.Nat.{◌+◌, ◌*◌, ◌-◌}
use lib.ListN.{length}
use borrow.Rule.Slice.PartMut.{put_mid}
use Rattle.cells.proofs.Parts.{part, mid_length, mid_inside}
use Rattle.cells.proofs.Puts.{put_same, put_taken}
use Rattle.restoring.proofs.Bench.{half_whole}
use Rattle.rewriting.proofs.Rewrites.{band_end, band_copied}
use native.Mathlib.Omega.{arith}
use Rattle.rewriting.proofs.rewrite_band.Goals as goal

pub slice_bounds-copy_into-end : goal.slice_bounds-copy_into-end
slice_bounds-copy_into-end c =
    let a = c.args in
    omega (arith, band_end c.requires.3.laid a.u a.first a.n c.requires.1 c.requires.0)

pub returns : goal.returns
returns c =
    let a = c.args in
    let size = a.n * a.g.b in
    let y = c.restore_rows in
    let o = y.new.w in
    let room = put_mid 0 (size - 0) a.room.now o in
    let lent : length o ≡ size - 0 = y.ensures.size ∙ half_whole a.room.now 0 size (omega arith) c.requires.2 (omega arith) in
    let e : size ≡ 0 + size = omega arith in
    band_copied c.requires.3.laid a.u a.first a.n c.requires.1 y.ensures
    (put_same
    (put_taken a.s.now c.copy_into.new.dst room (a.u * a.g.column + a.first * a.g.b) 0 size (band_end c.requires.3.laid a.u a.first a.n c.requires.1 c.requires.0)
    (omega (arith, c.requires.2, mid_length a.room.now o 0 (size - 0) (omega (arith, c.requires.2)) lent)) (c.copy_into.ensures ∙ ap (part room 0) e))
    (λ l h. mid_inside a.room.now o 0 (size - 0) (omega (arith, c.requires.2)) lent l (omega arith)))
