-- `maps::Gaps::counted` meets its contract: a law of `Counts` for each way out.
use mathlib.Core.Path.{◌∙◌}
use native.Mathlib.Omega.{arith}
use Rattle.maps.proofs.Absent.{counts_present, counts_first, counts_second, counts_more}
use Rattle.maps.proofs.Gaps.counted.Goals as goal

pub returns-then-there : goal.returns-then-there
returns-then-there c map n e = counts_present map _ _ n (e ∙ c.if-there.true)

pub returns-then-count-eq0 : goal.returns-then-count-eq0
returns-then-count-eq0 c map n e = counts_first map _ _ n (e ∙ c.if-there.false) c.if-count-eq0.true

pub returns-then-count-eq1 : goal.returns-then-count-eq1
returns-then-count-eq1 c map n e = counts_second map _ _ n (e ∙ c.if-there.false) c.if-count-eq1.true

pub returns : goal.returns
returns c map n e = counts_more map _ _ n (e ∙ c.if-there.false) (omega arith)
