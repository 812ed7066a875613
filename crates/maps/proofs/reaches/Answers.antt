-- `maps::reaches` meets its contract: 129 names no place.
use mathlib.Core.Path.{sym}
use mathlib.Core.Bool.{true≢false}
use borrow.Author.Tests.{leb-true, le-leb}
use Rattle.maps.proofs.reaches.Goals as goal

pub returns-then-map-eq129 : goal.returns-then-map-eq129
returns-then-map-eq129 c = (λ e. absurd (true≢false (sym e)), λ p. absurd (p.0 c.if-map-eq129.true))

pub returns : goal.returns
returns c = (λ e. (c.if-map-eq129.false, leb-true _ _ e), λ p. le-leb _ _ p.1)
