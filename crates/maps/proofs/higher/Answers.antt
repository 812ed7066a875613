-- `maps::higher` meets its contract: the place comes to be the highest where none was, or a lower one.
use native.Mathlib.Omega.{arith}
use Rattle.maps.proofs.Truth.{highest_here, highest_there}
use Rattle.maps.proofs.higher.Goals as goal

pub returns-then-highest-eq129 : goal.returns-then-highest-eq129
returns-then-highest-eq129 c places h inside l = highest_here places _ inside _ h l (λ n. absurd (n c.if-highest-eq129.true))

pub returns-then-highest-place : goal.returns-then-highest-place
returns-then-highest-place c places h inside l = highest_here places _ inside _ h l (λ n. let below = c.if-highest-place.true in omega arith)

pub returns : goal.returns
returns c places h inside l = highest_there places _ inside _ h l c.if-highest-eq129.false c.if-highest-place.false
