-- `text::put_hex` meets its contract. The invariant: the bytes before i are written.
use lib.ListN.{take}
use Rattle.text.specs.Text.{hex, Wrote}
use Rattle.text.proofs.put_hex.Given as goal

abbrev pub invariant-loop-byte : goal.invariant-loop-byte
invariant-loop-byte l = Wrote l.initial.out l.out l.at l.next (hex (take l.byte-index l.bytes))
