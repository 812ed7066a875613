-- `sums::fill_by` meets its contract. The invariant: the lanes from x up to j are filled, and what is left after the last whole block is what was left before the first.
use Rattle.std.proofs.Common.{◌+◌, ◌-◌}
use Rattle.std.proofs.Math.Nat.{mod-le, mod-lt}
use Rattle.cells.specs.Runs.{Put}
use Rattle.cells.proofs.Puts.{put_count}
use Rattle.sums.specs.Sums.{filled}
use Rattle.sums.proofs.Fillings.{fill_next, step_room, step_next}
use native.Mathlib.Omega.{arith}
use Rattle.sums.proofs.fill_by.Goals as goal
use Rattle.sums.proofs.fill_by.Goals.{After-fill_part}

-- after one block more
filled_next : (g : _) (c : After-fill_part g)
    → Put c.args.w.now c.fill_part.new.w (c.args.to + c.args.x) (c.loop-j.j + g.row.N - c.args.x) (λ l. filled c.args.w.now c.args.seed c.args.s.now c.args.at.now (c.args.x + l))
filled_next g c =
    let a = c.args in
    let y = c.loop-j in
    fill_next a.seed a.s.now a.at.now c.requires.2.room.later a.w.now y.w c.fill_part.new.w a.x y.j (y.j + g.row.N) (omega arith) (omega arith) y.invariant.3 (put_count c.fill_part.ensures (omega (arith, y.invariant.2)))

pub loop-j-preserved : goal.loop-j-preserved
loop-j-preserved g c =
    let y = c.loop-j in
    (omega arith, step_next g.row.N c.args.b y.j y.invariant.1 c.loop-j-test.true, omega (arith, y.invariant.2), filled_next g (goal.at.loop-j-preserved g c).After-fill_part)

pub returns-2 : goal.returns-2
returns-2 g c =
    let a = c.args in
    let y = c.loop-j in
    let few = mod-lt (a.b - a.x) c.requires.0 in
    let most = mod-le (a.b - a.x) g.row.N in
    let left = mod-le (a.b - (y.j + g.row.N)) g.row.N in
    let room = step_room g.row.N a.b y.j y.invariant.1 c.loop-j-test.true in
    let next = step_next g.row.N a.b y.j y.invariant.1 c.loop-j-test.true in
    (omega (arith, most, c.requires.1), omega arith, omega (arith, few, most), put_count (filled_next g (goal.at.returns-2 g c).After-fill_part) (omega (arith, left, room, next)))
