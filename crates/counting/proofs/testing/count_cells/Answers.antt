-- `counting::testing::count_cells` meets its contract. The invariant: what was found of the cells before r. Where all bytes are zero, no cell is set.
use mathlib.Core.Path.{◌≡◌, sym, ap, ◌∙◌}
use Prim.Native.Nat.{ℕ, ◌+◌, ◌*◌}
use lib.ListN.{get_or}
use Rattle.cells.proofs.Parts.{part_at, parts_end}
use Rattle.lines.proofs.Places.{part_length}
use Rattle.counting.proofs.Found.{found_begin, found_clear, found_same, found_more, found_as, found_enough}
use Rattle.counting.proofs.Bands.{tells_part}
use borrow.Author.Rules.{rules}
use native.Mathlib.Omega.{arith}
use Rattle.counting.proofs.testing.count_cells.Goals as goal
use Rattle.counting.proofs.testing.count_cells.Goals.{then-any-ne0+else-enough-count, else-any-ne0}

pub returns-then-any-eq0 : goal.returns-then-any-eq0
returns-then-any-eq0 c =
    let a = c.args in
    let w = a.w.now in
    found_clear a.enough a.b (λ l r. get_or w (r * a.b + l) 0) a.n (λ i l h k.
    let x : i * a.b + l ≡ 0 + (i * a.b + l) = omega arith in
    let end = parts_end a.b h in
    ap (λ (y : ℕ). get_or w y 0) x ∙ sym (part_at w 0 (a.n * a.b) (i * a.b + l) (omega (arith, end)))
    ∙ c.any.ensures.none c.if-any-eq0.true (i * a.b + l) (omega (arith, end, part_length w (a.n * a.b) c.requires)))

pub loop-r-init : goal.loop-r-init
loop-r-init c = (search rules, found_begin _ _ _)

pub returns-then-enough-count : goal.returns-then-enough-count
returns-then-enough-count c =
    let a = c.args in
    let y = c.loop-r in
    let r = c.any-in-loop-r in
    let in-loop = c.loop-r-test.true in
    let f : ℕ → ℕ → ℕ = λ l r. get_or a.w.now (r * a.b + l) 0 in
    let t = tells_part a.w.now r.result (y.r * a.b) a.b (omega (arith, c.requires, parts_end a.b in-loop)) r.ensures in
    found_enough (found_more a.enough a.b f y.count y.last y.r y.invariant.1 r.result t c.if-any-ne0.true) a.n c.if-enough-count.true (omega (arith, in-loop))

pub loop-r-preserved : goal.loop-r-preserved
loop-r-preserved c =
    let a = c.args in
    let y = c.loop-r in
    let r = c.any-in-loop-r in
    let f : ℕ → ℕ → ℕ = λ l r. get_or a.w.now (r * a.b + l) 0 in
    let t = tells_part a.w.now r.result (y.r * a.b) a.b (omega (arith, c.requires, parts_end a.b c.loop-r-test.true)) r.ensures in
    (elim c.if-any-ne0.branch [
      | then-any-ne0+else-enough-count w ↦ (omega arith, found_as w.count-is w.last-is (found_more a.enough a.b f y.count y.last y.r y.invariant.1 r.result t w.if-any-ne0.true))
      | else-any-ne0 w ↦ (omega arith, found_as w.count-is w.last-is (found_same a.enough a.b f y.count y.last y.r y.invariant.1 r.result t w.if-any-ne0.false))
    ])
