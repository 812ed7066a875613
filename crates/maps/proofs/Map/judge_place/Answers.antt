-- `maps::Map::judge_place` meets its contract: its rules are tested in their order.
use mathlib.Core.Path.{refl, sym, ◌∙◌}
use mathlib.Core.Bool.{true≢false}
use native.Mathlib.Omega.{arith}
use Rattle.refusals.proofs.Rules.{gives_first, gives_next}
use Rattle.maps.proofs.Map.judge_place.Goals as goal

pub returns-then-not-is_true : goal.returns-then-not-is_true
returns-then-not-is_true c = record { told = gives_first (λ h. true≢false (sym (c.is_true.ensures.1 h) ∙ c.if-not-is_true.true)) }

pub returns-then-place-ge129 : goal.returns-then-place-ge129
returns-then-place-ge129 c = record { told = gives_next (λ lies. lies (c.is_true.ensures.0 c.if-not-is_true.false)) (gives_first c.if-place-ge129.true) }

pub returns : goal.returns
returns c = record { told = gives_next (λ lies. lies (c.is_true.ensures.0 c.if-not-is_true.false)) (gives_next (λ h. omega arith) refl) }
