-- `sums::fill_eight` meets its contract: eight places, lent as eight, are the same places.
use mathlib.Core.Path.{subst}
use mathlib.Core.List.{List}
use Prim.Native.Nat.{ℕ, ◌≤◌}
use lib.Seq.{take_all}
use Rattle.cells.specs.Runs.{Put}
use Rattle.sums.specs.Sums.{filled}
use borrow.Author.Rules.{rules}
use native.Mathlib.Omega.{arith}
use Rattle.sums.proofs.fill_eight.Goals as goal

pub returns-then-at-eq8 : goal.returns-then-at-eq8
returns-then-at-eq8 c =
    let a = c.args in
    let y = c.fill_by in
    subst (λ (x : List ℕ). (y.result ≤ a.b) × Put a.w.now y.new.w a.to y.result (filled a.w.now a.seed a.s.now x)) (take_all 8 a.at.now (omega (arith, c.if-at-eq8.true))) (y.ensures.1, search (rules, y.ensures.3))
