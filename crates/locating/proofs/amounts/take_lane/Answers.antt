-- `locating::amounts::take_lane` meets its contract. The invariant: the bytes before i are read.
use mathlib.Core.Path.{◌≡◌, ap, ◌∙◌}
use Prim.Native.Nat.{ℕ, ◌+◌, ◌-◌, ◌*◌, ◌<◌}
use lib.ListN.{length, get_or}
use borrow.Author.Rules.{rules}
use Rattle.cells.proofs.Puts.{put_part_lem}
use Rattle.locating.proofs.Summing.{lane_room, taken}
use native.Mathlib.Omega.{arith}
use Rattle.locating.proofs.amounts.take_lane.Goals as goal

pub bounds-s-from : goal.bounds-s-from
bounds-s-from c =
    let a = c.args in
    let inside : c.loop-i.i < a.g.m - 1 = search rules in
    lane_room c.requires.0.laid a.t a.l c.loop-i.i c.requires.1 c.requires.0.inside inside

pub returns : goal.returns
returns c =
    let a = c.args in
    let bytes = c.loop-i.byte-items in
    let p = c.loop-i.invariant.1 in
    let size : length bytes ≡ a.g.m - 1 = search rules in
    let whole : c.loop-i.i ≡ a.g.m - 1 = search rules in
    taken c.requires.0.laid.sized a.s.now a.t a.l c.requires.0.room
    (put_part_lem a.x.now bytes 0 (a.g.m - 1) (λ i. get_or a.s.now (a.t * a.g.column + a.l + i * a.g.b) 0) (omega (arith, c.requires.0.room)) size
    (λ l h. let q : l ≡ 0 + l = omega arith in ap (λ (n : ℕ). get_or bytes n 0) q ∙ p.inside l (omega arith)))
