-- What the loops below ask for, of what the tests said: a stripe that is laid out, and a bench as long as it asks for.
use mathlib.Core.Path.{◌≡◌, sym, ap, ◌∙◌}
use mathlib.Core.List.{List}
use Prim.Native.Nat.{ℕ, ◌*◌}
use Rattle.parity.specs.Shape.{column_length, bench_length}
use Rattle.lines.specs.declared.Grid.{Grid}
use Rattle.lines.specs.Lines.{Laid}
use Rattle.restoring.specs.Restoring.{Bench}

pub laid_bench : {g : Grid} {s : List ℕ} {n : ℕ} → Laid g s → g.column ≡ column_length g.m g.b → n ≡ bench_length g.m g.b → Bench g s n
unfolding bench_length
laid_bench z column held = record { laid = z; bench = held ∙ sym (ap (λ (n : ℕ). 2 * n) column) }
