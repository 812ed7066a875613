-- `lines::add_cells` meets its contract. The invariant: the cells at the places so far are added.
use mathlib.Core.Path.{◌≡◌, sym, ap, ◌∙◌}
use Prim.Native.Nat.{ℕ, ◌+◌}
use lib.ListN.{length, get_or}
use Rattle.parity.specs.Xor.{◌⊕◌}
use Rattle.cells.proofs.Parts.{part_at}
use Rattle.cells.proofs.Puts.{added_none, added_both, added_same}
use Rattle.lines.specs.Places.{total}
use Rattle.lines.proofs.Places.{total_none, total_more}
use native.Mathlib.Omega.{arith}
use Rattle.lines.proofs.add_cells.Goals as goal

pub loop-place-init : goal.loop-place-init
loop-place-init c =
    let a = c.args in
    added_none a.acc.now _ (λ l h. total_none a.at.now a.s.now (a.j + l))

pub loop-place-preserved : goal.loop-place-preserved
loop-place-preserved c =
    let y = c.loop-place in
    let a = c.args in
    let n = get_or a.at.now y.place-index 0 in
    added_same (added_both y.invariant c.xor_into.ensures) (λ l hl.
    let q : n + a.j + l ≡ n + (a.j + l) = omega arith in
    ap (λ (v : ℕ). total a.at.now y.place-index a.s.now (a.j + l) ⊕ v)
    (part_at a.s.now (n + a.j) (n + a.j + length y.acc) l (omega (arith, y.invariant.size)) ∙ ap (λ (p : ℕ). get_or a.s.now p 0) q)
    ∙ sym (total_more a.at.now y.place-index a.s.now (a.j + l)))
