-- `restoring::add_crossing` meets its contract: row m - 1 - u is a real one but for u = 0.
use mathlib.Core.Path.{◌≡◌, sym, ap, ◌∙◌}
use Prim.Native.Nat.{ℕ, ◌+◌, ◌*◌, ◌-◌, ◌<◌}
use lib.ListN.{get_or}
use Rattle.parity.specs.Xor.{◌⊕◌}
use Rattle.parity.specs.Stripe.{lane}
use Rattle.parity.proofs.Xor.{⊕_zero}
use Rattle.cells.proofs.Parts.{parts_end}
use Rattle.cells.proofs.Puts.{put_kept, put_same}
use Rattle.lines.proofs.Lines.{real_in, real_out, column_is}
use Rattle.lines.proofs.Turned.{last_cell}
use Rattle.restoring.proofs.Bench.{first_at}
use native.Mathlib.Omega.{arith}
use Rattle.restoring.proofs.add_crossing.Goals as goal

row_low : (m u : ℕ) → 0 < u → u < m → m - 1 - u < m - 1
row_low m u some h = omega arith

pub add_within-requires : goal.add_within-requires
add_within-requires c =
    let e = last_cell c.requires.2 0 in
    let f = column_is c.args.g.m c.args.g.b c.args.g.column c.requires.2 in
    let n = parts_end c.args.g.b (row_low c.args.g.m c.args.u c.if-u-gt0.true c.requires.0) in
    (omega (arith, c.requires.1), omega (arith, c.requires.1), λ h. omega arith)

pub returns-then-u-gt0 : goal.returns-then-u-gt0
returns-then-u-gt0 c =
    let a = c.args in
    let r : ℕ = a.g.m - 1 - a.u in
    let h = row_low a.g.m a.u c.if-u-gt0.true c.requires.0 in
    put_same c.add_within.ensures (λ l hl.
    let e : r * a.g.b + l ≡ 0 + (r * a.g.b + l) = omega arith in
    ap (λ (x : ℕ). get_or a.bench.now (a.g.column + (a.g.m - 2) * a.g.b + l) 0 ⊕ x)
    (ap (λ (x : ℕ). get_or a.bench.now x 0) e ∙ sym (first_at a.g.m a.g.b a.bench.now r l) ∙ sym (real_in a.g.m (lane a.g.m a.g.b a.bench.now l) r 0 h)))

pub returns-else-u-gt0 : goal.returns-else-u-gt0
returns-else-u-gt0 c =
    let a = c.args in
    put_kept a.bench.now _ a.g.b _ (λ l hl.
    sym (ap (λ (x : ℕ). get_or a.bench.now (a.g.column + (a.g.m - 2) * a.g.b + l) 0 ⊕ x) (real_out a.g.m (lane a.g.m a.g.b a.bench.now l) (a.g.m - 1 - a.u) 0 (omega (arith, c.if-u-gt0.false)))
    ∙ ⊕_zero (get_or a.bench.now (a.g.column + (a.g.m - 2) * a.g.b + l) 0)))
