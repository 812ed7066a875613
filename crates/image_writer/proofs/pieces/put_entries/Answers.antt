-- `image_writer::pieces::put_entries` meets its contract. The loop's invariant: the entries of the columns below t are written, and the next body begins after theirs.
use mathlib.Core.Path.{sym, ap, ap₂, ◌∙◌}
use mathlib.Core.Bool.{Bool, true, false}
use mathlib.Core.List.{List}
use Prim.Native.Nat.{ℕ, ◌+◌}
use native.Mathlib.Numerals.{add-one}
use native.Mathlib.Nat.{add-zero}
use native.Mathlib.Omega.{arith}
use Rattle.parity.specs.Presence.{present}
use Rattle.text.specs.Text.{Wrote}
use Rattle.text.proofs.Writing.{wrote_none, wrote_then, wrote_same}
use Rattle.image.specs.Format.{joined}
use Rattle.image.proofs.Laid.{bodies_none}
use Rattle.image_writer.specs.Pieces.{entry_of}
use Rattle.image_writer.proofs.Joining.{begins, entries, entries_length, body_fits, begins_next}
use borrow.Author.Rules.{rules}
use Rattle.image_writer.proofs.pieces.put_entries.Goals as goal
use Rattle.image_writer.proofs.pieces.put_entries.Goals.{then-there, else-there}

-- one entry more
entry_next : (map : List Bool) (column bodies t : ℕ) {x y z : List ℕ} {at p r : ℕ} → Wrote x y at p (entries map column bodies t) → Wrote y z p r (entry_of t (present map t) (begins map column bodies t))
    → Wrote x z at r (entries map column bodies (t + 1))
unfolding joined
entry_next map column bodies t w e = rw add-one (wrote_then w e)

pub loop-t-init : goal.loop-t-init
unfolding joined
loop-t-init c = let a = c.args in (search rules, wrote_none _ _, omega (arith, bodies_none a.map.places a.column))

pub put_entry-next-requires : goal.put_entry-next-requires
put_entry-next-requires c =
    let a = c.args in
    let w = c.loop-t.invariant.1 in
    omega (arith, w.ends, w.size, entries_length (present a.map.places) (begins a.map.places a.column a.bodies) c.loop-t.t, c.requires.0)

pub overflow_add-body : goal.overflow_add-body
overflow_add-body c =
    let a = c.args in
    let x = body_fits a.map.places a.column c.loop-t.t a.columns c.loop-t-test.true (sym c.is_present-there.ensures ∙ c.if-there.true) in
    omega (arith, x, c.loop-t.invariant.2, c.requires.1)

pub loop-t-preserved : goal.loop-t-preserved
loop-t-preserved c =
    let a = c.args in
    let there = c.is_present-there.ensures in
    let next = begins_next a.map.places a.column a.bodies c.loop-t.t in (
      search rules,
      entry_next _ _ _ _ c.loop-t.invariant.1 (wrote_same c.put_entry-next.ensures (ap₂ (entry_of c.loop-t.t) there c.loop-t.invariant.2)),
      elim c.if-there.branch [
        | then-there w ↦ w.body-is ∙ ap (λ n. n + a.column) c.loop-t.invariant.2 ∙ next true (sym there ∙ w.if-there.true)
        | else-there w ↦ w.body-is ∙ c.loop-t.invariant.2 ∙ sym (add-zero _) ∙ next false (sym there ∙ w.if-there.false)
      ],
    )
