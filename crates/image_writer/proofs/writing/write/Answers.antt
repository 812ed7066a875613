-- `image_writer::writing::write` meets its contract: the refusal is passed on, or the buffer is too short, or the pieces are written one after another.
use mathlib.Core.Path.{◌≡◌}
use Prim.Native.Nat.{◌+◌, ◌*◌, ◌≤◌}
use native.Mathlib.Omega.{arith}
use lib.ListN.{length}
use Rattle.parity.specs.Shape.{column_length, stripe_length}
use Rattle.parity.specs.Presence.{present}
use Rattle.parity.proofs.Count.{count_most}
use Rattle.inputs.proofs.ShapeLaws.{places_most, parts_most}
use Rattle.text.proofs.Writing.{wrote_then}
use Rattle.image.specs.Format.{bodies_at, present_below}
use Rattle.image_writer.proofs.Joining.{entries_length}
use Rattle.image_writer.proofs.Verdicts.{Marked, marked_good, counted, write_short, write_good}
use Rattle.image_writer.proofs.writing.write.Goals as goal
use Rattle.image_writer.proofs.writing.write.Goals.{In_ok-column}

-- past the judgement
good : (c : In_ok-column) → Marked c.args.shape.m c.args.shape.k c.args.shape.b c.args.map (length c.args.stripe.now) × (c.in_ok-column.column ≡ column_length c.args.shape.m c.args.shape.b)
good c = marked_good _ _ _ _ _ c.in_ok-column.ensures

-- as many columns are present as fit a stripe
bodies_most : (c : In_ok-column) → c.args.map.present * c.in_ok-column.column ≤ 66576384
unfolding present_below
bodies_most c =
    let a = c.args in
    let (g, column) = good c in
    parts_most g.shape column a.map.present (omega (arith, counted _ _ _ a.map _ g, count_most (a.shape.k + 2) (present a.map.places), places_most g.shape))

pub overflow_mul-map : goal.overflow_mul-map
overflow_mul-map c = omega (arith, bodies_most (goal.at.overflow_mul-map c).In_ok-column)

pub overflow_add-bodies-2 : goal.overflow_add-bodies-2
overflow_add-bodies-2 c =
    let at = (goal.at.overflow_add-bodies-2 c).In_ok-column in
    omega (arith, places_most (good at).0.shape, bodies_most at)

pub returns-then-image-bodies : goal.returns-then-image-bodies
returns-then-image-bodies c =
    let (g, column) = good (goal.at.returns-then-image-bodies c).In_ok-column in write_short _ _ _ _ _ _ g column c.if-image-bodies.true

pub put_entries-bodies_at-requires : goal.put_entries-bodies_at-requires
put_entries-bodies_at-requires c =
    let (g, _) = good (goal.at.put_entries-bodies_at-requires c).In_ok-column in
    -- the image fits the buffer
    let room : bodies_at c.args.shape.k + present_below (c.args.shape.k + 2) c.args.map.places * c.in_ok-column.column ≤ length c.args.image.now = rw (counted _ _ _ c.args.map _ g) at c.if-image-bodies.false in
    let w = c.put_numbers-entries_at.ensures in
    (omega (arith, room, w.ends, w.size), omega (arith, room, w.size))

pub put_bodies-requires : goal.put_bodies-requires
unfolding stripe_length
put_bodies-requires c =
    let a = c.args in
    let (g, column) = good (goal.at.put_bodies-requires c).In_ok-column in
    let room : bodies_at a.shape.k + present_below (a.shape.k + 2) a.map.places * c.in_ok-column.column ≤ length a.image.now = rw (counted _ _ _ a.map _ g) at c.if-image-bodies.false in
    let first = c.put_numbers-entries_at.ensures in
    let second = c.put_entries-bodies_at.ensures in
    let most : (a.shape.k + 2) * c.in_ok-column.column ≤ length a.stripe.now = rw column (omega (arith, g.stripe)) in
    (omega (arith, room, first.ends, first.size, second.ends, second.size, entries_length (present a.map.places) (λ t. bodies_at a.shape.k + present_below t a.map.places * c.in_ok-column.column) (a.shape.k + 2)), most)

pub returns : goal.returns
returns c =
    let (g, column) = good (goal.at.returns c).In_ok-column in
    write_good _ _ _ _ _ _ g column _ _ c.if-image-bodies.false (wrote_then c.put_numbers-entries_at.ensures (wrote_then c.put_entries-bodies_at.ensures c.put_bodies.ensures))
