-- `sums::fill_places` meets its contract: the blocks, smaller and smaller, down to single lanes.
use Prim.Native.Nat.{◌+◌, ◌-◌}
use Rattle.cells.specs.Runs.{Put}
use Rattle.cells.proofs.Puts.{put_count}
use Rattle.sums.specs.Sums.{filled}
use Rattle.sums.proofs.Fillings.{fill_next, fill_all}
use borrow.Author.Rules.{rules}
use native.Mathlib.Omega.{arith}
use Rattle.sums.proofs.fill_places.Goals as goal

pub returns : goal.returns
returns c =
    let a = c.args in
    let x = c.fill_eight-x in
    let y = c.fill_by-y in
    let z = c.fill_by-z in
    let u = c.fill_by in
    let next = fill_next a.seed a.s.now a.at.now c.requires.room.later a.w.now in
    let first : Put a.w.now x.new.w (a.to + 0) (x.result - 0) (λ l. filled a.w.now a.seed a.s.now a.at.now (0 + l)) = search rules in
    let second = next x.new.w y.new.w 0 x.result y.result (omega arith) y.ensures.0 first y.ensures.3 in
    let third = next y.new.w z.new.w 0 y.result z.result (omega arith) z.ensures.0 second z.ensures.3 in
    put_count (fill_all (next z.new.w u.new.w 0 z.result u.result (omega arith) u.ensures.0 third u.ensures.3)) (omega (arith, u.ensures.1, u.ensures.2))
