-- `locating::find_lane` meets its contract: the first cell becomes what the row breaks by, lane for lane.
use Rattle.locating.proofs.Lanes.{one_row, row_set, first_put, found}
use native.Mathlib.Omega.{arith}
use Rattle.locating.proofs.find_lane.Goals as goal

pub sum_line-requires : goal.sum_line-requires
sum_line-requires c =
    one_row c.requires.0 c.all_but.ensures c.args.i c.requires.1.inside (record { inside = omega (arith, c.requires.0.sized.short); later = omega arith; near = omega arith; whole = λ h. absurd (omega arith) })

pub slice_bounds-find_set-end : goal.slice_bounds-find_set-end
slice_bounds-find_set-end c = omega (arith, c.sum_line.ensures.size, c.requires.0.sized.short)

pub unwrap-requires : goal.unwrap-requires
unwrap-requires c =
    let a = c.args in
    let f = c.sum_line in
    found a.g a.s.now a.i c.requires.1 c.find_set.result
    (first_put c.find_set.result f.new.w (omega (arith, f.ensures.size, c.requires.0.sized.short)) (row_set c.requires.0 c.all_but.ensures a.i c.requires.1.inside _ (omega arith) f.ensures) c.find_set.ensures)

pub returns : goal.returns
returns c =
    let a = c.args in
    let f = c.sum_line in
    rw c.unwrap.ensures at (first_put c.find_set.result f.new.w (omega (arith, f.ensures.size, c.requires.0.sized.short)) (row_set c.requires.0 c.all_but.ensures a.i c.requires.1.inside _ (omega arith) f.ensures) c.find_set.ensures)
