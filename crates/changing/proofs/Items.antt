-- Laws of lists of cells that are changed.
--   item_within, item_most   where the new bytes of an item end
--   changed_next   one item more, once paid
use mathlib.Core.Path.{◌≡◌}
use mathlib.Core.List.{List}
use Prim.Native.Nat.{ℕ, ◌+◌, ◌-◌, ◌*◌, ◌≤◌, ◌<◌}
use native.Mathlib.Nat.{mul-le-mul_right}
use native.Mathlib.Omega.{arith}
use lib.ListN.{length, get_or}
use Rattle.parity.specs.Change.{new_cell, CellChanged, CellsChanged}
use Rattle.parity.proofs.InOrder.{one_more}
use Rattle.cells.proofs.Parts.{part, parts_end}
use Rattle.lines.specs.declared.Grid.{Grid}
use Rattle.lines.specs.Lines.{Laid}
use Rattle.changing.specs.Items.{ItemsFit}
use Rattle.changing.specs.Owed.{OncePaid}
use Rattle.changing.proofs.Owed.{once_then}

module _ {g : Grid} {columns rows cells : List ℕ} (items : ItemsFit g columns rows cells) where
  pub item_within : (n : ℕ) → n < length columns → n * g.b + g.b ≤ length cells
  item_within n h = omega (arith, parts_end g.b h, items.full)

  pub item_most : {s : List ℕ} → Laid g s → (n : ℕ) → n < length columns → n * g.b + g.b ≤ 1048576
  item_most laid n h = omega (arith, parts_end g.b h, mul-le-mul_right g.b items.few, laid.sized.short)

module _ {g : Grid} {s : List ℕ} (laid : Laid g s) (columns rows cells : List ℕ) (n : ℕ) where
  pub changed_next : {owed₀ s₀ owed debt t : List ℕ} → OncePaid g.m g.k g.b owed₀ s₀ owed s (CellsChanged g.m g.k g.b columns rows cells n)
      → OncePaid g.m g.k g.b owed s debt t (CellChanged g.m g.k g.b (get_or columns n 0) (get_or rows n 0) (part cells (n * g.b) (n * g.b + g.b)))
      → OncePaid g.m g.k g.b owed₀ s₀ debt t (CellsChanged g.m g.k g.b columns rows cells (n + 1))
  changed_next before last = once_then laid _ before last (λ v u w most one.
      let e : n * g.b + g.b - n * g.b ≡ g.b = omega arith in
      one_more (λ i. CellChanged g.m g.k g.b (get_or columns i 0) (get_or rows i 0) (new_cell g.b cells i)) n v u w most (rw e at one))
