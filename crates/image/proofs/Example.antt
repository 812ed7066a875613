-- The definition of the format gives C5's 54 bytes, by computing.
use mathlib.Core.Path.{refl}
use Rattle.parity.specs.Sum.{count}
use Rattle.parity.specs.Shape.{column_length}
use Rattle.parity.specs.Presence.{present}
use Rattle.image.specs.Format.{joined, present_below, offset, entry, body, image_of}
use Rattle.image.specs.Example.{C5Image}

pub c5_image : C5Image
unfolding C5Image image_of joined entry body offset present_below count present column_length
c5_image = refl
