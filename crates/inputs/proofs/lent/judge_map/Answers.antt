-- `inputs::lent::judge_map` meets its contract: the map's truth is tested, and then its highest place. That 9 is read from that place is a law of true maps.
use mathlib.Core.Path.{refl, sym, ◌∙◌}
use mathlib.Core.Bool.{true≢false}
use Prim.Native.Nat.{◌+◌}
use Rattle.maps.specs.Truth.{TrueMap}
use Rattle.maps.proofs.Truth.{from_highest}
use Rattle.refusals.proofs.Rules.{gives_first, gives_next}
use Rattle.inputs.proofs.lent.judge_map.Goals as goal

pub returns-then-not-is_true : goal.returns-then-not-is_true
returns-then-not-is_true c = record { told = gives_first (λ h. true≢false (sym (c.is_true.ensures.1 h) ∙ c.if-not-is_true.true)) }

pub returns-then-reaches : goal.returns-then-reaches
returns-then-reaches c =
    let a = c.args in
    let truth : TrueMap a.map = c.is_true.ensures.0 c.if-not-is_true.false in
    record { told = gives_next (λ lies. lies truth) (gives_first ((from_highest a.map truth (a.k + 2)).1 (c.reaches.ensures.0 c.if-reaches.true))) }

pub returns : goal.returns
returns c =
    let a = c.args in
    let truth : TrueMap a.map = c.is_true.ensures.0 c.if-not-is_true.false in
    record { told = gives_next (λ lies. lies truth) (gives_next (λ p. true≢false (sym (c.reaches.ensures.1 ((from_highest a.map truth (a.k + 2)).0 p)) ∙ c.if-reaches.false)) refl) }
