-- `restoring::data_and_h` meets its contract: column u from the diagonals, and H from the rows once column u is known.
use mathlib.Core.Path.{◌≡◌, ap, ◌∙◌, subst, sym}
use Prim.Native.Nat.{ℕ, ◌+◌, ◌-◌, ◌%◌, ◌<◌}
use Rattle.parity.specs.Equations.{back}
use Rattle.lines.proofs.Lines.{back_lt, column_is}
use Rattle.restoring.proofs.Bench.{half_whole, lent_lined}
use Rattle.restoring.proofs.Steps.{half_band, data_h}
use native.Mathlib.Omega.{arith}
use Rattle.restoring.proofs.data_and_h.Goals as goal

one_back : (m u : ℕ) → back m u 1 ≡ (m - 1 + u) % m
unfolding back
one_back m u = let e : u + (m - 1) ≡ m - 1 + u = omega arith in ap (λ (x : ℕ). x % m) e

pub put_diagonals-requires : goal.put_diagonals-requires
put_diagonals-requires c =
    let a = c.args in (
      subst (λ (x : ℕ). x < a.g.m) (sym c.row_above.ensures) (back_lt a.g.m a.u 1 (omega (arith, c.requires.0.laid.sized.big))),
      omega (arith, c.requires.1, c.requires.0.laid.few),
      half_band c.requires.0.laid (half_whole a.bench.now 0 a.g.column (omega arith) (omega (arith, c.requires.0.bench)) (omega arith)),
    )

pub put_rows-requires : goal.put_rows-requires
put_rows-requires c =
    let a = c.args in
    let p = lent_lined a.bench.now c.put_diagonals.new.w 0 a.g.column (omega arith) (omega (arith, c.requires.0.bench)) (omega (arith, column_is a.g.m a.g.b a.g.column c.requires.0.laid.sized)) c.put_diagonals.ensures in
    (omega (arith, c.requires.0.laid.sized.big), half_band c.requires.0.laid (half_whole _ a.g.column _ (omega arith) (omega (arith, c.requires.0.bench, p.size)) (omega arith)))

pub returns : goal.returns
returns c =
    let a = c.args in
    let f = column_is a.g.m a.g.b a.g.column c.requires.0.laid.sized in
    let p = lent_lined a.bench.now c.put_diagonals.new.w 0 a.g.column (omega arith) (omega (arith, c.requires.0.bench)) (omega (arith, f)) c.put_diagonals.ensures in
    let q = lent_lined _ c.put_rows.new.w a.g.column _ (omega arith) (omega (arith, c.requires.0.bench, p.size)) (omega (arith, f)) c.put_rows.ensures in
    data_h a.g a.s.now a.bench.now c.requires.0 a.u c.row_above.result c.requires.1 (c.row_above.ensures ∙ one_back a.g.m a.u) p q c.add_within.ensures
