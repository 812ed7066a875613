-- `maps::Map::is_true` meets its contract: both numbers are held against what the places say.
use mathlib.Core.Path.{sym, ◌∙◌}
use mathlib.Core.Bool.{true≢false}
use borrow.Author.Tests.{eqb-true, eq-eqb}
use Rattle.maps.proofs.Presence.{whole}
use Rattle.maps.proofs.Truth.{highest_one}
use Rattle.maps.proofs.Map.is_true.Goals as goal

pub returns-then-count_present-present : goal.returns-then-count_present-present
returns-then-count_present-present c = (λ e. absurd (true≢false (sym e)), λ h. absurd (c.if-count_present-present.true (c.count_present.ensures ∙ sym h.counted)))

pub returns : goal.returns
returns c =
    let map = c.args.self in
    let found = c.find_highest.ensures in (
      λ e. record {
        whole = whole map c.well_formed.0;
        counted = sym c.if-count_present-present.false ∙ c.count_present.ensures;
        named = rw (eqb-true c.find_highest.result map.highest e) at found;
      },
      λ h. eq-eqb _ _ (highest_one map.places _ _ found h.named),
    )
