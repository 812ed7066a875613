-- `counting::count_broken` meets its contract: the lines of column D left out are the rows, and those of column H left out are the diagonals. No m of
-- them break, so all are looked at.
use mathlib.Core.Path.{◌∙◌}
use Rattle.counting.proofs.Found.{found_all}
use Rattle.counting.proofs.Tests.{broken_rows_lem, broken_diagonals_lem}
use native.Mathlib.Omega.{arith}
use Rattle.counting.proofs.count_broken.Goals as goal

pub returns : goal.returns
returns c =
    let a = c.args in (
      found_all c.count_lines-rows.ensures (omega (arith, c.requires.sized.big)) ∙ broken_rows_lem a.g.m a.g.k a.g.b c.requires.sized.big c.requires.few a.s.now,
      found_all c.count_lines-diagonals.ensures (omega (arith, c.requires.sized.big)) ∙ broken_diagonals_lem a.g.m a.g.k a.g.b c.requires.sized.big c.requires.few a.s.now,
    )
