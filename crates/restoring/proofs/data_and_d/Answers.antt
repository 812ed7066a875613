-- `restoring::data_and_d` meets its contract: column u from the rows, and D from the diagonals once column u is known.
use mathlib.Core.Path.{◌≡◌, ap, ap₂, ◌∙◌}
use Prim.Native.Nat.{ℕ, ◌+◌, ◌*◌, ◌-◌, ◌%◌, ◌≤◌}
use lib.ListN.{length, get_or}
use borrow.Rule.Slice.PartMut.{put_mid}
use Rattle.parity.specs.Xor.{◌⊕◌}
use Rattle.lines.proofs.Lines.{column_is}
use Rattle.lines.proofs.Rows.{lined_same}
use Rattle.lines.proofs.Turned.{last_cell}
use Rattle.restoring.specs.Restoring.{Bench}
use Rattle.restoring.proofs.Bench.{half_whole, lent_lined, lent_at}
use Rattle.restoring.proofs.Steps.{half_band, half_cells, whole_lines, diagonal_left_lem, last_put, data_d}
use native.Mathlib.Omega.{arith}
use Rattle.restoring.proofs.data_and_d.Goals as goal

pub put_rows-requires : goal.put_rows-requires
put_rows-requires c =
    let a = c.args in
    (omega (arith, c.requires.0.laid.sized.big), half_band c.requires.0.laid (half_whole a.bench.now 0 a.g.column (omega arith) (omega (arith, c.requires.0.bench)) (omega arith)))

pub put_diagonal-requires : goal.put_diagonal-requires
put_diagonal-requires c =
    let a = c.args in
    let f = column_is a.g.m a.g.b a.g.column c.requires.0.laid.sized in
    let p = lent_lined a.bench.now c.put_rows.new.w 0 a.g.column (omega arith) (omega (arith, c.requires.0.bench)) (omega (arith, f)) c.put_rows.ensures in
    (omega (arith, c.requires.0.laid.sized.big), (half_cells c.requires.0.laid (half_whole (put_mid 0 (a.g.column - 0) a.bench.now c.put_rows.new.w) a.g.column (2 * a.g.column) (omega arith) (omega (arith, c.requires.0.bench, p.size)) (omega arith))).room, c.requires.0.laid)

pub sum_cells-requires : goal.sum_cells-requires
sum_cells-requires c =
    let a = c.args in
    let f = column_is a.g.m a.g.b a.g.column c.requires.0.laid.sized in
    let p = lent_lined a.bench.now c.put_rows.new.w 0 a.g.column (omega arith) (omega (arith, c.requires.0.bench)) (omega (arith, f)) c.put_rows.ensures in
    let w₁ = put_mid 0 (a.g.column - 0) a.bench.now c.put_rows.new.w in
    let r₁ : Bench a.g a.s.now (length w₁) = record { laid = c.requires.0.laid; bench = p.size ∙ c.requires.0.bench } in
    let q = last_put a.g a.s.now w₁ c.put_diagonal.new.w r₁ c.put_diagonal.ensures in (
      half_cells c.requires.0.laid (half_whole _ a.g.column _ (omega arith) (omega (arith, c.requires.0.bench, p.size, q.size, c.add_crossing.ensures.size)) (omega arith)),
      whole_lines a.g a.u (a.g.k + 1) a.s.now c.all_but.ensures c.requires.0.laid (omega arith) (omega (arith, c.requires.0.laid.sized.big)),
    )

pub returns : goal.returns
returns c =
    let a = c.args in
    let f = column_is a.g.m a.g.b a.g.column c.requires.0.laid.sized in
    let p = lent_lined a.bench.now c.put_rows.new.w 0 a.g.column (omega arith) (omega (arith, c.requires.0.bench)) (omega (arith, f)) c.put_rows.ensures in
    let w₁ = put_mid 0 (a.g.column - 0) a.bench.now c.put_rows.new.w in
    let r₁ : Bench a.g a.s.now (length w₁) = record { laid = c.requires.0.laid; bench = p.size ∙ c.requires.0.bench } in
    let q = last_put a.g a.s.now w₁ c.put_diagonal.new.w r₁ c.put_diagonal.ensures in
    let x = c.add_crossing in
    let room : 2 * a.g.column ≤ length x.new.bench = omega (arith, c.requires.0.bench, p.size, q.size, x.ensures.size) in
    let o = lent_lined x.new.bench c.sum_cells.new.w a.g.column (2 * a.g.column) (omega arith) room (omega (arith, f)) (lined_same c.sum_cells.ensures (λ r l hr hl.
    let e : a.g.column + ((a.g.m - 2) * a.g.b + l) ≡ a.g.column + (a.g.m - 2) * a.g.b + l = omega arith in
    ap₂ ◌⊕◌ (lent_at x.new.bench c.sum_cells.new.w a.g.column (2 * a.g.column) (omega arith) room ((a.g.m - 2) * a.g.b + l) (omega (arith, last_cell c.requires.0.laid.sized 0)) ∙ ap (λ (n : ℕ). get_or x.new.bench n 0) e)
    (diagonal_left_lem a.g a.u (a.g.k + 1) a.s.now ((r + 0) % a.g.m) l c.all_but.ensures))) in
    data_d a.g a.s.now a.bench.now c.requires.0 a.u c.requires.1 p q x.ensures o c.add_turned_within.ensures
