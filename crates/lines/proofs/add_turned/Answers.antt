-- `lines::add_turned` meets its contract: two runs, of which the second is none where the column is turned by at most one row.
use mathlib.Core.Path.{◌≡◌, subst}
use mathlib.Core.List.{List}
use Prim.Native.Nat.{ℕ, ◌+◌}
use lib.ListN.{get_or}
use Rattle.parity.specs.Xor.{◌⊕◌}
use Rattle.cells.specs.Runs.{Put}
use Rattle.lines.proofs.Turned.{turned_runs, turned_run, first_run, second_run}
use native.Mathlib.Omega.{arith}
use Rattle.lines.proofs.add_turned.Goals as goal

-- a run that begins at x, counted from the start
from_start : {x n : ℕ} {w u : List ℕ} (f : ℕ → ℕ) → Put w u x n (λ l. get_or w (x + l) 0 ⊕ f l) → Put w u (0 + x) n (λ l. get_or w (0 + x + l) 0 ⊕ f l)
from_start {x} {n} {w} {u} f = let e : x ≡ 0 + x = omega arith in subst (λ (y : ℕ). Put w u y n (λ l. get_or w (y + l) 0 ⊕ f l)) e

pub add_run-requires : goal.add_run-requires
add_run-requires c =
    let e = first_run c.requires.3 c.args.turn c.requires.2 in
    (omega (arith, c.requires.0), omega (arith, c.requires.1))

pub add_run-requires-then-turn-gt1 : goal.add_run-requires-then-turn-gt1
add_run-requires-then-turn-gt1 c =
    let e = second_run c.requires.3 c.args.turn (omega (arith, c.if-turn-gt1.true)) (omega (arith, c.requires.2)) in
    (omega (arith, c.requires.0, c.add_run.ensures.size), omega (arith, c.requires.1))

pub returns-then-turn-gt1 : goal.returns-then-turn-gt1
returns-then-turn-gt1 c =
    let a = c.args in
    turned_runs c.requires.3 0 a.turn a.t c.requires.2 a.w.now c.add_run.new.w c.add_run-then-turn-gt1.new.w a.s.now (from_start _ c.add_run.ensures) c.add_run-then-turn-gt1.ensures

pub returns-else-turn-gt1 : goal.returns-else-turn-gt1
returns-else-turn-gt1 c =
    let a = c.args in
    turned_run c.requires.3 a.turn (omega (arith, c.if-turn-gt1.false)) c.requires.2 0 a.t a.w.now c.add_run.new.w a.s.now (from_start _ c.add_run.ensures)
