-- `rewriting::rewrite_with` meets its contract. The invariant: the rows before `first` are rewritten; of short cells these are none, for all have room.
use mathlib.Core.Path.{◌≡◌}
use Prim.Native.Nat.{◌-◌, ◌≤◌, ◌<◌}
use lib.ListN.{length}
use Rattle.rewriting.specs.Rewrite.{BandRewritten}
use Rattle.rewriting.proofs.rewrite_with.Given as goal

abbrev pub invariant-loop-first : goal.invariant-loop-first
invariant-loop-first g l =
    (length l.room ≡ g.row.ROOM) × (l.first ≤ l.g.m - 1) × (l.g.b < 128 → l.first ≡ 0) × BandRewritten l.g.m l.g.k l.g.b l.u 0 l.first l.initial.s l.s
