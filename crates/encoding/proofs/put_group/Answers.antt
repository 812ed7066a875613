-- `encoding::put_group` meets its contract. The invariant: the rows before i are done.
use mathlib.Core.Path.{ap}
use Prim.Native.Nat.{ℕ, ◌*◌}
use Rattle.parity.specs.Xor.{◌⊕◌}
use Rattle.cells.proofs.Parts.{parts_end}
use Rattle.cells.proofs.Puts.{put_same}
use Rattle.lines.proofs.Lines.{column_is}
use Rattle.lines.proofs.Turned.{last_cell}
use Rattle.sums.proofs.Sweeps.{begun_at, begun_room, cells_next}
use Rattle.encoding.specs.Sums.{over, spans}
use native.Mathlib.Omega.{arith}
use Rattle.encoding.proofs.put_group.Goals as goal

pub put_cell-requires : goal.put_cell-requires
put_cell-requires c =
    let a = c.args in
    let z = c.requires.0.all.sized in
    let end = parts_end a.g.b c.loop-i-test.true in (
      c.requires.0,
      omega arith,
      omega arith,
      begun_room (over a.t0 a.t1) (record { inside = omega (arith, end, column_is a.g.m a.g.b a.g.column z); later = omega (arith, end, column_is a.g.m a.g.b a.g.column z); near = omega arith; whole = λ h. absurd (omega arith) }) c.begin_at-seed_h.ensures,
    )

pub put_cell-requires-in-loop-i : goal.put_cell-requires-in-loop-i
put_cell-requires-in-loop-i c =
    let a = c.args in
    let z = c.requires.0.all.sized in
    let end = parts_end a.g.b c.loop-i-test.true in
    let last = last_cell z 0 in (
      c.requires.0,
      omega arith,
      omega arith,
      begun_room (over a.t0 a.t1) (record { inside = omega (arith, end, column_is a.g.m a.g.b a.g.column z); later = omega (arith, end, last, column_is a.g.m a.g.b a.g.column z); near = omega (arith, last); whole = λ h. omega (arith, last) }) c.begin_at-seed_d.ensures,
    )

pub loop-i-preserved : goal.loop-i-preserved
loop-i-preserved c =
    let a = c.args in
    let y = c.loop-i in
    let b = a.g.b in
    let s = a.s.now in
    let end = parts_end b c.loop-i-test.true in
    let last = last_cell c.requires.0.all.sized 0 in
    let whole = column_is a.g.m b a.g.column c.requires.0.all.sized in (
      cells_next (over a.t0 a.t1) b _ y.i a.h.now y.h c.put_cell.new.w (λ r l. spans a.g s 0 a.t0 a.t1 r l) (omega (arith, end, whole)) y.invariant.0
          (put_same c.put_cell.ensures (λ l h. ap (λ (v : ℕ). v ⊕ spans a.g s 0 a.t0 a.t1 y.i l) (begun_at (over a.t0 a.t1) _ (y.i * b) l y.h c.begin_at-seed_h.ensures))),
      cells_next (over a.t0 a.t1) b _ y.i a.d.now y.d c.put_cell-in-loop-i.new.w (λ r l. spans a.g s 1 a.t0 a.t1 r l) (omega (arith, end, last, whole)) y.invariant.1
          (put_same c.put_cell-in-loop-i.ensures (λ l h. ap (λ (v : ℕ). v ⊕ spans a.g s 1 a.t0 a.t1 y.i l) (begun_at (over a.t0 a.t1) _ (y.i * b) l y.d c.begin_at-seed_d.ensures))),
    )
