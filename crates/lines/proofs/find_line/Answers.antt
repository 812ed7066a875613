-- `lines::find_line` meets its contract: the end first, where the columns are the first, and then the cells in the columns.
use mathlib.Core.Path.{◌≡◌, sym, refl, ap, ◌∙◌}
use Prim.Native.Nat.{ℕ, ◌+◌, ◌*◌, ◌≤◌}
use native.Mathlib.Nat.{mul-le-mul_right}
use Rattle.parity.specs.Xor.{◌⊕◌}
use Rattle.parity.specs.Equations.{Lane}
use Rattle.parity.specs.Stripe.{lane}
use Rattle.cells.proofs.Parts.{parts_end}
use Rattle.lines.specs.Lines.{real, span}
use Rattle.lines.specs.Places.{without, window}
use Rattle.lines.proofs.Places.{listed_then, listed_same, listed_ends, listed_most, window_start, window_next}
use native.Mathlib.Omega.{arith}
use Rattle.lines.proofs.find_line.Goals as goal

pub returns-then-columns-ne0 : goal.returns-then-columns-ne0
returns-then-columns-ne0 c =
    let a = c.args in
    listed_same (listed_most (omega arith) (listed_ends (mul-le-mul_right a.g.column (omega (arith, c.requires.1.most))) c.add_places.ensures)) refl (λ s l.
    sym (window_next a.g.m a.g.k (without a.columns.u a.columns.v (lane a.g.m a.g.b s l)) a.slant a.i a.columns.from a.columns.to c.if-columns-ne0.true))

pub returns : goal.returns
returns c =
    let a = c.args in
    let p = c.add_place_but-n.ensures in
    let q = c.add_places-2.ensures in
    let zero : 0 ≡ a.columns.from = omega arith in
    let e : (a.g.k + a.slant) * a.g.column + a.g.column ≤ (a.g.k + 2) * a.g.column = parts_end a.g.column (omega (arith, c.requires.1.slant)) in
    listed_same (listed_then (omega arith) (listed_ends e p) (listed_ends (mul-le-mul_right a.g.column (omega (arith, c.requires.1.most))) q)) (omega arith) (λ s l.
    let n : Lane = without a.columns.u a.columns.v (lane a.g.m a.g.b s l) in
    ap (λ (x : ℕ). real a.g.m n a.i (a.g.k + a.slant) ⊕ span a.g.m n a.slant a.i x a.columns.to) (sym zero)
    ∙ sym (window_start a.g.m a.g.k n a.slant a.i a.columns.to)
    ∙ ap (λ (x : ℕ). window a.g.m a.g.k n a.slant a.i x a.columns.to) zero)
