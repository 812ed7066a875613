-- `counting::short::add_lines` meets its contract: rows; or diagonals, with D's cells; or also rows above, where a data column is left out.
use mathlib.Core.Path.{◌≡◌, sym, ap, ◌∙◌, subst}
use Prim.Native.Nat.{ℕ, ◌+◌, ◌*◌, ◌-◌, ◌%◌, ◌<◌}
use lib.ListN.{get_or}
use Rattle.parity.specs.Xor.{◌⊕◌}
use Rattle.parity.specs.Stripe.{lane}
use Rattle.parity.proofs.Xor.{⊕_assoc, xor}
use Rattle.lines.specs.Lines.{span}
use Rattle.lines.specs.Places.{without}
use Rattle.lines.proofs.Lines.{back_lt}
use Rattle.lines.proofs.Rows.{lined_same, lined_grown}
use Rattle.lines.proofs.Whole.{row_crosses}
use Rattle.counting.proofs.Wholes.{whole_row, whole_diagonal, whole_data}
use native.Mathlib.Omega.{arith}
use Rattle.counting.proofs.short.add_lines.Goals as goal

pub returns-then-k-u : goal.returns-then-k-u
returns-then-k-u c =
    let a = c.args in
    lined_same c.add_columns.ensures (λ r l hr hl.
    ap (λ (x : ℕ). get_or a.w.now (0 + (r * a.g.b + l)) 0 ⊕ x) (whole_row a.g.m a.g.k (lane a.g.m a.g.b a.s.now l) a.u r (omega arith) c.if-k-u.true))

pub add_columns-requires-then-u-k : goal.add_columns-requires-then-u-k
add_columns-requires-then-u-k c =
    let a = c.args in
    record {
      sized = c.requires.1.sized;
      whole = omega (arith, c.requires.0, c.add_columns-2.ensures.size, c.add_columns-3.ensures.size);
      shift = subst (λ (x : ℕ). x < a.g.m) (sym c.row_above-shift.ensures) (back_lt _ _ _ (omega (arith, c.requires.1.sized.big)));
      crosses = row_crosses c.requires.1.sized c.requires.1.few c.requires.1.whole (omega (arith, c.requires.1.sized.big)) (omega arith) (omega arith);
    }

pub returns-then-u-k : goal.returns-then-u-k
returns-then-u-k c =
    let a = c.args in
    let e = c.row_above-shift in
    let f : ℕ → ℕ → ℕ → ℕ → ℕ → ℕ → ℕ = λ s d x y r l. span a.g.m (without a.u a.u (lane a.g.m a.g.b a.s.now l)) s ((r + d) % a.g.m) x y in
    lined_same (lined_grown (a.g.m - 1) a.g.b 0 _ (lined_grown (a.g.m - 1) a.g.b 0 _ c.add_columns-2.ensures c.add_columns-3.ensures) c.add_columns-then-u-k.ensures) (λ r l hr hl.
    tidy (get_or a.w.now (0 + (r * a.g.b + l)) 0) (f 1 0 0 a.g.k r l) (f 0 0 (a.g.k + 1) (a.g.k + 2) r l) (f 0 e.result 0 (a.g.k + 1) r l)
    ∙ ap (λ (x : ℕ). get_or a.w.now (0 + (r * a.g.b + l)) 0 ⊕ x) (whole_data a.g.m a.g.k (lane a.g.m a.g.b a.s.now l) a.u r (omega arith) e.ensures c.if-u-k.true))
  where
    tidy : (p q r s : ℕ) → p ⊕ q ⊕ r ⊕ s ≡ p ⊕ (q ⊕ r ⊕ s)
    tidy p q r s = simp xor

pub returns-else-u-k : goal.returns-else-u-k
returns-else-u-k c =
    let a = c.args in
    let f : ℕ → ℕ → ℕ → ℕ → ℕ → ℕ = λ s x y r l. span a.g.m (without a.u a.u (lane a.g.m a.g.b a.s.now l)) s ((r + 0) % a.g.m) x y in
    lined_same (lined_grown (a.g.m - 1) a.g.b 0 _ c.add_columns-2.ensures c.add_columns-3.ensures) (λ r l hr hl.
    ⊕_assoc (get_or a.w.now (0 + (r * a.g.b + l)) 0) (f 1 0 a.g.k r l) (f 0 (a.g.k + 1) (a.g.k + 2) r l)
    ∙ ap (λ (x : ℕ). get_or a.w.now (0 + (r * a.g.b + l)) 0 ⊕ x) (whole_diagonal a.g.m a.g.k (lane a.g.m a.g.b a.s.now l) a.u r (omega arith) c.if-k-u.false c.if-u-k.false))
