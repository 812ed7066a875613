-- `image::reading::copy_body` meets its contract: where the column is present its body comes back in the lent part, and otherwise nothing is lent.
use mathlib.Core.Path.{sym, ◌∙◌}
use Rattle.image.proofs.Copying.{put_body_lem, put_nothing}
use native.Mathlib.Omega.{arith}
use Rattle.image.proofs.reading.copy_body.Goals as goal

pub returns-then-is_present : goal.returns-then-is_present
returns-then-is_present c =
    let there = sym c.is_present.ensures ∙ c.if-is_present.true in
    put_body_lem _ _ _ _ _ _ c.four-from.result there c.four-from.ensures c.requires.1 (rw c.four-from.ensures (c.requires.0.ends c.args.t (omega arith) there)) c.copy_into.ensures

pub returns-else-is_present : goal.returns-else-is_present
returns-else-is_present c = put_nothing _ _ _ _ _ (sym c.is_present.ensures ∙ c.if-is_present.false)
