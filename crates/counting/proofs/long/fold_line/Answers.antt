-- `counting::long::fold_line` meets its contract: the cells at the places that were found add up to the line.
use mathlib.Core.Path.{ap, ◌∙◌}
use Prim.Native.Nat.{ℕ, ◌+◌, ◌*◌, ◌-◌, ◌≤◌}
use lib.ListN.{length, get_or}
use Rattle.parity.specs.Xor.{◌⊕◌}
use Rattle.cells.proofs.Tells.{tells_same}
use Rattle.lines.specs.declared.Columns.{Columns}
use Rattle.counting.specs.Counting.{piece_of}
use Rattle.counting.proofs.Breaking.{listed_total}
use native.Mathlib.Omega.{arith}
use Rattle.counting.proofs.long.fold_line.Goals as goal

pub returns : goal.returns
returns c =
    let a = c.args in
    let columns = c.all_but.result in
    let room : 2 + 2 * (columns.to - columns.from) ≤ length a.at.now = rw c.all_but.ensures (omega (arith, c.requires.2)) in
    tells_same c.fold_places.ensures (λ l h. ap (λ (x : ℕ). get_or a.seed.now l 0 ⊕ x)
    (listed_total c.find_piece-n.ensures room a.s.now l ∙ ap (λ (p : Columns). piece_of a.g a.s.now a.d p l) c.all_but.ensures))
