-- `changing::change_cells` meets its contract: b is at most 4,096, and the room is zero.
use mathlib.Core.Path.{◌∙◌}
use mathlib.Core.List.{List}
use Prim.Native.Nat.{ℕ, ◌+◌}
use native.Mathlib.Omega.{arith}
use lib.ListN.{replicate, get_or-replicate}
use Rattle.cells.proofs.Parts.{part_at}
use Rattle.lines.proofs.Places.{part_length}
use Rattle.changing.proofs.many_cells.change_cells.Goals as goal

pub change_and_pay-requires : goal.change_and_pay-requires
change_and_pay-requires c =
    let b = c.args.g.b in
    let short = c.requires.0.sized.short in
    let zeros : List ℕ = replicate 4096 0 in
    let size = part_length zeros b (omega (arith, short)) in (
      c.requires.0,
      size,
      record { each = λ l h. part_at zeros 0 b l (omega (arith, size)) ∙ get_or-replicate 4096 (0 + l) 0 0 (omega (arith, size, short)) },
      c.requires.1,
    )
