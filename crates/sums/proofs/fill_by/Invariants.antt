-- `sums::fill_by` meets its contract. The invariant: the lanes from x up to j are filled, and what is left after the last whole block is what was left before the first.
use Rattle.std.proofs.Common.{◌≡◌, ◌+◌, ◌-◌, ◌%◌, ◌≤◌, length}
use Rattle.cells.specs.Runs.{Put}
use Rattle.sums.specs.Sums.{filled}
use Rattle.sums.proofs.fill_by.Given as goal

abbrev pub invariant-loop-j : goal.invariant-loop-j
invariant-loop-j g l =
    (l.j ≤ l.end) × ((l.b - l.j) % g.row.N ≡ (l.b - l.x) % g.row.N) × (length l.acc ≡ g.row.N)
    × Put l.initial.w l.w (l.to + l.x) (l.j - l.x) (λ k. filled l.initial.w l.seed l.s l.at (l.x + k))
