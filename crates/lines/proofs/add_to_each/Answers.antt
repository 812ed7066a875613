-- `lines::add_to_each` meets its contract. The invariant: the first r cells have the cell at `from` added.
use mathlib.Core.Logic.{◌⊎◌, inl, inr}
use Prim.Native.Nat.{ℕ, ◌+◌, ◌*◌, ◌≤◌, ◌<◌}
use Rattle.cells.proofs.Parts.{parts_end}
use Rattle.lines.proofs.Rows.{each_more}
use borrow.Author.Rules.{rules}
use native.Mathlib.Omega.{arith}
use Rattle.lines.proofs.add_to_each.Goals as goal

-- the first r of the n cells are apart from it too
apart : (at n b from r : ℕ) → r < n → (from + b ≤ at) ⊎ (at + n * b ≤ from) → (from + b ≤ at) ⊎ (at + r * b ≤ from)
apart at n b from r h (inl low) = inl low
apart at n b from r h (inr high) = inr (omega (arith, parts_end b h))

pub loop-r-preserved : goal.loop-r-preserved
loop-r-preserved c =
    let a = c.args in
    let y = c.loop-r in
    let taken = c.loop-r-test.true in
    let q = c.add_within in
    (search rules, each_more y.r a.b a.at a.from a.w.now y.w q.new.w (apart a.at a.n a.b a.from y.r taken c.requires.2) y.invariant.1 q.ensures)
