-- `text::put_hex` meets its contract. The invariant: the bytes so far are written.
use lib.ListN.{take, length-take}
use lib.Seq.{take_all}
use Rattle.text.proofs.Writing.{wrote_none, wrote_then, wrote_same, wrote_hex, hex_none, hex_next, length_hex}
use native.Mathlib.Omega.{arith}
use Rattle.text.proofs.put_hex.Goals as goal

pub loop-byte-init : goal.loop-byte-init
loop-byte-init c = wrote_same (wrote_none c.args.out.now c.args.at) (hex_none c.args.bytes.now)

pub put_hex_byte-next-requires : goal.put_hex_byte-next-requires
put_hex_byte-next-requires c =
    let s = c.args.bytes.now in
    let p = c.loop-byte.invariant in
    omega (arith, p.size, p.ends, length_hex (take c.loop-byte.byte-index s), length-take c.loop-byte.byte-index s)

pub loop-byte-preserved : goal.loop-byte-preserved
loop-byte-preserved c =
    wrote_same (wrote_then c.loop-byte.invariant c.put_hex_byte-next.ensures) (hex_next c.args.bytes.now c.loop-byte.byte-index (omega arith))

pub returns : goal.returns
returns c = wrote_hex c.loop-byte.invariant (take_all c.loop-byte.byte-index c.args.bytes.now (omega arith))
