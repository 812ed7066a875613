-- `changing::change_off_s` meets its contract: the three cells lie one after another in the stripe.
use mathlib.Core.Path.{subst}
use Prim.Native.Nat.{ℕ, ◌+◌, ◌*◌}
use lib.ListN.{get_or}
use Rattle.cells.specs.Runs.{Exchanged}
use Rattle.cells.proofs.Parts.{parts_end}
use Rattle.changing.proofs.Changed.{row_within, column_within, changed_off_s}
use native.Mathlib.Omega.{arith}
use Rattle.changing.proofs.change_off_s.Goals as goal

pub overflow_mul-row : goal.overflow_mul-row
overflow_mul-row c = omega (arith, row_within c.requires.0 c.args.i c.requires.2, column_within c.requires.0 c.args.g.k (omega arith))

pub overflow_mul-t : goal.overflow_mul-t
overflow_mul-t c = omega (arith, column_within c.requires.0 c.args.t (omega (arith, c.requires.1)))

pub overflow_add-t : goal.overflow_add-t
overflow_add-t c = omega (arith, row_within c.requires.0 c.args.i c.requires.2, column_within c.requires.0 c.args.t (omega (arith, c.requires.1)))

pub overflow_add-h : goal.overflow_add-h
overflow_add-h c = omega (arith, row_within c.requires.0 c.args.i c.requires.2, column_within c.requires.0 c.args.g.k (omega arith))

pub overflow_add-h-2 : goal.overflow_add-h-2
overflow_add-h-2 c = omega (arith, column_within c.requires.0 c.args.g.k (omega arith))

pub overflow_mul-own : goal.overflow_mul-own
overflow_mul-own c = omega (arith, row_within c.requires.0 c.args.own c.requires.3, column_within c.requires.0 c.args.g.k (omega arith))

pub overflow_add-h-3 : goal.overflow_add-h-3
overflow_add-h-3 c = omega (arith, row_within c.requires.0 c.args.own c.requires.3, column_within c.requires.0 (c.args.g.k + 1) (omega arith))

pub exchange-requires : goal.exchange-requires
exchange-requires c =
    let row = row_within c.requires.0 c.args.i c.requires.2 in
    let own = row_within c.requires.0 c.args.own c.requires.3 in
    (omega (arith, row, parts_end c.args.g.column c.requires.1, c.requires.5), omega (arith, row, c.requires.5), omega (arith, own, column_within c.requires.0 (c.args.g.k + 1) (omega arith), c.requires.5))

pub returns : goal.returns
returns c =
    let a = c.args in
    let g = a.g in
    let r = c.exchange in
    changed_off_s c.requires.0.sized g.k a.t a.i a.s.now r.new.w a.cell.now c.requires.0.few c.requires.1 c.requires.2 a.own c.requires.3 c.requires.4
    (subst (λ (n : ℕ). Exchanged a.s.now r.new.w (a.t * g.column + a.i * g.b) (g.k * g.column + a.i * g.b) (g.k * g.column + g.column + a.own * g.b) n (λ l. get_or a.cell.now l 0))
    c.requires.5 r.ensures)
