-- `image_writer::pieces::put_numbers` meets its contract: one number after another.
use Rattle.text.proofs.Writing.{wrote_then}
use Rattle.image_writer.proofs.pieces.put_numbers.Goals as goal

pub returns : goal.returns
returns c =
    wrote_then c.put_number-second_at.ensures (wrote_then c.put_number-third_at.ensures (wrote_then c.put_number-fourth_at.ensures c.put_number.ensures))
