-- `image_writer::pieces::put_bodies` meets its contract. The loop's invariant: the bodies of the columns below t are written.
use native.Mathlib.Numerals.{add-one}
use native.Mathlib.Omega.{arith}
use Rattle.cells.proofs.Parts.{parts_end}
use Rattle.text.proofs.Writing.{wrote_none, wrote_then}
use Rattle.image.specs.Format.{joined}
use Rattle.image_writer.proofs.Joining.{bodies_length, body_fits}
use borrow.Author.Rules.{rules}
use Rattle.image_writer.proofs.pieces.put_bodies.Goals as goal

pub loop-t-init : goal.loop-t-init
unfolding joined
loop-t-init c = (search rules, wrote_none _ _)

pub put_body-next-requires : goal.put_body-next-requires
put_body-next-requires c =
    let a = c.args in
    let t = c.loop-t.t in
    let w = c.loop-t.invariant.1 in
    let x = parts_end a.column c.loop-t-test.true in
    let before = bodies_length a.map.places a.column a.stripe.now t (omega (arith, x, c.requires.1)) in
    (λ e. omega (arith, w.ends, w.size, before, c.requires.0, body_fits a.map.places a.column t a.columns c.loop-t-test.true e), omega (arith, x, c.requires.1))

pub loop-t-preserved : goal.loop-t-preserved
unfolding joined
loop-t-preserved c =
    (search rules, rw add-one (wrote_then c.loop-t.invariant.1 c.put_body-next.ensures))
