-- `report::writing::put_columns` meets its contract. The invariant: the lines of the columns before t are written.
use mathlib.Core.Path.{◌≡◌, refl}
use Prim.Native.Nat.{◌+◌, ◌*◌}
use native.Mathlib.Nat.{suc-mul}
use Rattle.parity.specs.Shape.{column_length}
use Rattle.cells.proofs.Parts.{parts_end}
use Rattle.judging.specs.Shown.{shown}
use Rattle.report.proofs.Lines.{lines_none, lines_next}
use Rattle.text.proofs.Writing.{wrote_none, wrote_then, wrote_same}
use borrow.Author.Rules.{rules}
use native.Mathlib.Omega.{arith}
use Rattle.report.proofs.writing.put_columns.Goals as goal

pub loop-t-init : goal.loop-t-init
loop-t-init c =
    let a = c.args in
    (refl, search rules, wrote_same (wrote_none a.out.now a.at) (lines_none a.columns.map.places (shown a.columns.shape.m a.columns.shape.b a.columns.map.places a.columns.stripe.now a.columns.bench.now)), omega arith)

pub put_column-next-requires : goal.put_column-next-requires
put_column-next-requires c =
    let l = c.loop-t in
    let w = 15 + 2 * column_length c.args.columns.shape.m c.args.columns.shape.b in
    (omega arith, omega (arith, parts_end {t = l.t} {k = c.args.columns.shape.k + 2} w (omega arith), l.invariant.2.size))

pub loop-t-preserved : goal.loop-t-preserved
loop-t-preserved c =
    let l = c.loop-t in
    let w = 15 + 2 * column_length c.args.columns.shape.m c.args.columns.shape.b in
    let f = shown c.args.columns.shape.m c.args.columns.shape.b c.args.columns.map.places c.args.columns.stripe.now c.args.columns.bench.now in
    let line = c.put_column-next.ensures in
    (refl, omega arith, wrote_same (wrote_then l.invariant.2 line.0) (lines_next l.t c.args.columns.map.places f), omega (arith, suc-mul l.t w))

pub shape_of-out : goal.shape_of-out
shape_of-out c = c.loop-t.invariant.2.size

pub returns : goal.returns
returns c =
    let a = c.args in
    let l = c.loop-t in
    let e : l.t ≡ a.columns.shape.k + 2 = omega arith in
    (rw e at l.invariant.2, rw e at l.invariant.3)
