-- `rewriting::rewrite` meets its contract: a column of at most 2,048 bytes has room; in 16,384 any cell has, and a column of short ones.
use Rattle.lines.proofs.Turned.{last_cell}
use Rattle.lines.proofs.Whole.{short_column}
use native.Mathlib.Omega.{arith}
use Rattle.rewriting.proofs.rewrite.Goals as goal

pub rewrite_with-requires : goal.rewrite_with-requires
rewrite_with-requires c =
    (omega arith, c.requires.1, omega (arith, c.if-g-le2048.true, last_cell c.requires.0.sized 0), λ h. c.if-g-le2048.true, c.requires.0)

pub rewrite_with-requires-else-g-le2048 : goal.rewrite_with-requires-else-g-le2048
rewrite_with-requires-else-g-le2048 c =
    let p = c.requires.0 in
    (omega arith, c.requires.1, omega (arith, p.sized.short), λ h. short_column p.sized h, p)
