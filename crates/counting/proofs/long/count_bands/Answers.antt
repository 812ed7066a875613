-- `counting::long::count_bands` meets its contract. The invariant: what was found of the lines before `first`; and the cell at `seed` is as it was.
use mathlib.Core.Path.{◌≡◌, refl, ◌∙◌, subst}
use Prim.Native.Nat.{ℕ, ◌+◌, ◌-◌, ◌/◌}
use lib.ListN.{get_or}
use Rattle.parity.specs.Xor.{◌⊕◌}
use Rattle.lines.proofs.Cells.{cells_room}
use Rattle.counting.specs.Counting.{test_line, Found}
use Rattle.counting.proofs.Found.{seen, found_begin, found_after, found_over, found_as, found_enough}
use Rattle.counting.proofs.Bands.{band_found}
use borrow.Author.Rules.{rules}
use native.Mathlib.Omega.{arith}
use Rattle.counting.proofs.long.count_bands.Goals as goal
use Rattle.counting.proofs.long.count_bands.Goals.{After-count_cells-found, then-found-ne0+else-enough-count, else-found-ne0}

pub loop-first-init : goal.loop-first-init
loop-first-init c = (search rules, search rules, omega arith, λ l h. refl, found_begin _ _ _)

-- what was found of the lines of a band, and of those up to its end, where some or none of its own break
module _ (c : goal.After-count_cells-found) where
  abbrev f : ℕ → ℕ → ℕ
  f l d = get_or c.args.w.now (c.args.seed + l) 0 ⊕ test_line c.args.g c.args.s.now c.args.u d l

  abbrev end : ℕ
  end = c.loop-first.first + c.min-n.result

  band : Found c.args.enough c.min-n.result c.args.g.b (λ l i. f l (c.loop-first.first + i)) c.count_cells-found.result
  band = band_found c.loop-first.first c.args.seed c.args.w.now c.loop-first.w (λ l d. test_line c.args.g c.args.s.now c.args.u d l) c.grow_band.ensures c.loop-first.invariant.3 c.count_cells-found.ensures

  some : (c.count_cells-found.result.count ≡ 0 → ⊥) → Found c.args.enough end c.args.g.b f (seen (c.loop-first.count + c.count_cells-found.result.count) (c.loop-first.first + c.count_cells-found.result.last))
  some ne = found_after c.args.enough c.args.g.b f c.loop-first.count c.loop-first.last c.loop-first.first c.loop-first.invariant.4 c.min-n.result c.count_cells-found.result.count c.count_cells-found.result.last ne band

  none : c.count_cells-found.result.count ≡ 0 → Found c.args.enough end c.args.g.b f (seen c.loop-first.count c.loop-first.last)
  none e = found_over c.args.enough c.args.g.b f c.loop-first.count c.loop-first.last c.loop-first.first c.loop-first.invariant.4 c.min-n.result c.count_cells-found.result.count c.count_cells-found.result.last e band

pub returns-then-enough-count : goal.returns-then-enough-count
returns-then-enough-count c =
    found_enough (some (goal.at.returns-then-enough-count c).After-count_cells-found c.if-found-ne0.true) (c.args.g.m - 1) c.if-enough-count.true (omega (arith, c.min-n.ensures))

pub loop-first-preserved : goal.loop-first-preserved
loop-first-preserved c =
    let a = c.args in
    let y = c.loop-first in
    let v = c.grow_band in
    let p = (goal.at.loop-first-preserved c).After-count_cells-found in
    let e : c.min-n.result ≡ a.seed / a.g.b = omega arith in (
      omega (arith, y.invariant.0, v.auto),
      omega (arith, y.invariant.1, v.ensures.size),
      omega arith,
      λ l h. v.ensures.after (a.seed + l) (omega (arith, cells_room c.min-n.result a.g.b a.seed (omega (arith, c.min-n.ensures)))) ∙ y.invariant.3 l h,
      subst (λ (n : ℕ). Found a.enough (y.first + n) a.g.b (f p) (seen c.if-found-ne0.count c.if-found-ne0.last)) e (elim c.if-found-ne0.branch [
        | then-found-ne0+else-enough-count w ↦ found_as w.count-is w.last-is (some p w.if-found-ne0.true)
        | else-found-ne0 w ↦ found_as w.count-is w.last-is (none p w.if-found-ne0.false)
      ]),
    )

pub returns-after-found-ne0 : goal.returns-after-found-ne0
returns-after-found-ne0 c =
    let p = (goal.at.returns-after-found-ne0 c).After-count_cells-found in
    let e : c.loop-first.first + c.min-n.result ≡ c.args.g.m - 1 = omega arith in
    subst (λ (n : ℕ). Found c.args.enough n c.args.g.b (f p) (seen c.if-found-ne0.count c.if-found-ne0.last)) e (elim c.if-found-ne0.branch [
      | then-found-ne0+else-enough-count w ↦ found_as w.count-is w.last-is (some p w.if-found-ne0.true)
      | else-found-ne0 w ↦ found_as w.count-is w.last-is (none p w.if-found-ne0.false)
    ])
