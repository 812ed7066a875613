-- `text::put_digits` meets its contract: the last digit stands after the others.
use mathlib.Core.Path.{ap, ◌∙◌}
use mathlib.Core.List.{[], ◌∷◌, ◌++◌}
use Prim.Native.Nat.{ℕ, ◌/◌, ◌%◌}
use native.Mathlib.Omega.{arith}
use lib.ListN.{length, length-append}
use Rattle.text.specs.Text.{glyph, decimal}
use Rattle.text.proofs.Writing.{wrote_then, wrote_same, decimal_one, decimal_more}
use Rattle.text.proofs.+put_digits.Goals as goal

pub put_byte-requires : goal.put_byte-requires
put_byte-requires t c = omega (arith, c.requires.1, ap length (decimal_one c.args.n (omega arith)))

pub returns-then-n-lt10 : goal.returns-then-n-lt10
returns-then-n-lt10 t c = wrote_same c.put_byte.ensures (ap (λ (x : ℕ). x ∷ []) c.decimal_digit.ensures ∙ decimal_one c.args.n (omega arith))

pub put_digits-next-requires : goal.put_digits-next-requires
put_digits-next-requires t c =
    let n = c.args.n in
    (omega arith, (omega arith, omega (arith, c.requires.1, ap length (decimal_more n (omega arith) (omega arith)), length-append (decimal (n / 10)) (glyph (n % 10) ∷ []))))

pub put_byte-requires-2 : goal.put_byte-requires-2
put_byte-requires-2 t c =
    let n = c.args.n in
    let p = c.put_digits-next.ensures in
    omega (arith, p.ends, p.size, c.requires.1, ap length (decimal_more n (omega arith) (omega arith)), length-append (decimal (n / 10)) (glyph (n % 10) ∷ []))

pub returns : goal.returns
returns t c =
    wrote_same (wrote_then c.put_digits-next.ensures c.put_byte-2.ensures)
    (ap (λ (x : ℕ). decimal (c.args.n / 10) ++ x ∷ []) c.decimal_digit-2.ensures ∙ decimal_more c.args.n (omega arith) (omega arith))
