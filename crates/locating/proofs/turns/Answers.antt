-- `locating::turns` meets its contract. The invariant: the diagonals before i break by the amounts of the rows, turned by u.
use mathlib.Core.Path.{sym, ap₂, ◌∙◌}
use mathlib.Core.Bool.{true≢false}
use Prim.Native.Nat.{ℕ, ◌-◌, ◌<◌}
use lib.ListN.{get_or}
use borrow.Author.Count.{below_more}
use Rattle.parity.specs.Xor.{◌⊕◌}
use Rattle.lines.proofs.Lines.{back_lt}
use borrow.Author.Rules.{rules}
use native.Mathlib.Omega.{arith}
use Rattle.locating.proofs.turns.Goals as goal

pub bounds-h-r : goal.bounds-h-r
bounds-h-r c =
    let a = c.args in
    let l : c.loop-i.i < a.m - 1 = search rules in
    omega (arith, c.row_above-r.ensures, back_lt a.m c.loop-i.i a.u (omega arith))

pub bounds-h-last : goal.bounds-h-last
bounds-h-last c =
    let a = c.args in
    omega (arith, c.row_above-last.ensures, back_lt a.m (a.m - 1) a.u (omega arith))

pub returns-then-byte-h : goal.returns-then-byte-h
unfolding ◌⊕◌
returns-then-byte-h c =
    let a = c.args in
    let y = c.loop-i in
    let l : y.i < a.m - 1 = search rules in
    record {
      yes = λ e. absurd (true≢false (sym e));
      no = λ _ p. c.if-byte-h.true (p y.i l ∙ ap₂ (λ (r q : ℕ). get_or a.h.now r 0 ⊕ get_or a.h.now q 0) (sym c.row_above-r.ensures) (sym c.row_above-last.ensures));
    }

pub loop-i-preserved : goal.loop-i-preserved
unfolding ◌⊕◌
loop-i-preserved c =
    let a = c.args in
    (search rules, below_more _ _ c.loop-i.invariant.1 (c.if-byte-h.false ∙ ap₂ (λ (r q : ℕ). get_or a.h.now r 0 ⊕ get_or a.h.now q 0) c.row_above-r.ensures c.row_above-last.ensures))
