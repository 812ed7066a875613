-- `shelf::reading::read_input` meets its contract. The invariant: what was read lies within the buffer, whose length stays. Each turn that goes on
-- has read some bytes.
use mathlib.Core.Path.{◌≡◌}
use Prim.Native.Nat.{◌≤◌, ◌-◌}
use lib.ListN.{length}
use Rattle.shelf.proofs.reading.read_input.Given as goal

abbrev pub invariant-loop-done : goal.invariant-loop-done
invariant-loop-done l = (l.end ≡ length l.initial.buf) × (length l.buf ≡ length l.initial.buf) × (l.done ≤ l.end)

abbrev pub decreases-loop-done : goal.decreases-loop-done
decreases-loop-done l = l.end - l.done
