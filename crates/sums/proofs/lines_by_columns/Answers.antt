-- `sums::lines_by_columns` meets its contract: the first columns after what every cell begins with and the ends, others after what is there.
use mathlib.Core.Path.{◌≡◌, sym, ap, ap₂, ◌∙◌, subst}
use Prim.Native.Nat.{ℕ, ◌+◌, ◌*◌, ◌-◌, ◌%◌}
use native.Mathlib.Nat.{mod-lt}
use lib.ListN.{get_or}
use Rattle.parity.specs.Xor.{◌⊕◌}
use Rattle.parity.proofs.Xor.{⊕_assoc}
use Rattle.lines.specs.declared.Columns.{Columns}
use Rattle.lines.specs.Lines.{span}
use Rattle.lines.specs.Places.{window}
use Rattle.lines.specs.Rows.{Lined}
use Rattle.lines.proofs.Places.{window_start, window_next}
use Rattle.lines.proofs.Amounts.{cell_span}
use Rattle.lines.proofs.Rows.{lined_same, lined_grown}
use Rattle.sums.specs.Sums.{lane_of, span_of}
use Rattle.sums.proofs.Sweeps.{begun_first, begun_next}
use native.Mathlib.Omega.{arith}
use Rattle.sums.proofs.lines_by_columns.Goals as goal

pub returns-then-columns-ne0 : goal.returns-then-columns-ne0
returns-then-columns-ne0 c =
    let a = c.args in
    let h = c.if-columns-ne0.true in
    lined_same c.add_columns.ensures (λ r l hr hl.
    let e : 0 + (r * a.g.b + l) ≡ r * a.g.b + l = omega arith in
    ap₂ ◌⊕◌ (ap (λ (x : ℕ). get_or a.half.now x 0) e ∙ sym (begun_next a.columns ((a.g.m - 2) * a.g.b) (r * a.g.b) l a.half.now h))
    (sym (window_next a.g.m a.g.k (lane_of a.g a.s.now a.columns l) a.slant ((r + a.shift) % a.g.m) a.columns.from a.columns.to h)))

pub returns : goal.returns
returns c =
    let a = c.args in
    let m = a.g.m in
    let b = a.g.b in
    let s = a.s.now in
    let w = a.half.now in
    let end : ℕ = a.g.k + a.slant in
    let zero : a.columns.from ≡ 0 = omega (arith, c.if-columns-ne0.false) in
    let p = c.repeat_last in
    let q = c.add_columns-2 in
    let ends = subst (λ (x : Columns). Lined (m - 1) b 0 p.new.half q.new.half (λ r l. get_or p.new.half (0 + (r * b + l)) 0 ⊕ span_of a.g s 0 ((r + a.shift) % m) x l)) c.part_of.ensures q.ensures in
    lined_same (lined_grown (m - 1) b 0 _ (lined_grown (m - 1) b 0 _ p.ensures ends) c.add_columns-3.ensures) (λ r l hr hl.
    let i : ℕ = (r + a.shift) % m in
    let n = lane_of a.g s a.columns l in
    ⊕_assoc (get_or w ((m - 2) * b + l) 0) (span_of a.g s 0 i (record { from = end; to = end + 1; u = a.columns.u; v = a.columns.v }) l) (span_of a.g s a.slant i a.columns l)
    ∙ ap₂ ◌⊕◌ (sym (begun_first a.columns ((m - 2) * b) (r * b) l w zero))
    (ap₂ ◌⊕◌ (cell_span m n i end (mod-lt (r + a.shift) (omega (arith, c.requires.1.shift)))) (ap (λ (x : ℕ). span m n a.slant i x a.columns.to) zero)
    ∙ sym (window_start m a.g.k n a.slant i a.columns.to) ∙ ap (λ (x : ℕ). window m a.g.k n a.slant i x a.columns.to) (sym zero)))
