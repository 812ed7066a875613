-- `judging::judge_parts` meets its contract: the stripe is read, and restore either fills the bench, so that every column can be looked at, or refuses with
-- 5, since nothing else is left.
use mathlib.Core.Path.{sym, ◌∙◌}
use mathlib.Core.Bool.{true≢false}
use Rattle.judging.proofs.Judged.{read_ok, read_fills, parts_held, parts_blank, parts_complete, parts_contradicted}
use Rattle.image.specs.Reads.{Filled}
use Rattle.judging.proofs.judge_parts.Goals as goal
use Rattle.judging.proofs.judge_parts.Goals.{In-Ok}

filled : (c : In-Ok) → Filled c.args.shape.m c.args.shape.k c.args.shape.b c.args.map.places c.args.image.now c.args.stripe.now c.read.new.stripe
filled c = read_fills c.requires.0 c.requires.2 c.read.result c.read.ensures

pub unwrap-requires : goal.unwrap-requires
unwrap-requires c = read_ok c.requires.0 c.requires.2 c.read.result c.read.ensures

pub invariant_of-columns : goal.invariant_of-columns
invariant_of-columns c =
    record { held = parts_held c.requires.0 (filled (goal.at.invariant_of-columns c).In-Ok) (rw c.in-Ok.is at c.restore.ensures) c.requires.1 c.requires.2 c.requires.3 }

pub returns-then-is_blank : goal.returns-then-is_blank
returns-then-is_blank c =
    parts_blank c.requires.0 (filled (goal.at.returns-then-is_blank c).In-Ok) (rw c.in-Ok.is at c.restore.ensures) c.requires.1 (c.is_blank.ensures.0 c.if-is_blank.true)

pub returns-else-is_blank : goal.returns-else-is_blank
returns-else-is_blank c =
    parts_complete c.requires.0 (filled (goal.at.returns-else-is_blank c).In-Ok) (rw c.in-Ok.is at c.restore.ensures) c.requires.1 (λ blank. true≢false (sym (c.is_blank.ensures.1 blank) ∙ c.if-is_blank.false))

pub returns-in-Err : goal.returns-in-Err
returns-in-Err c =
    parts_contradicted c.requires.0 (read_fills c.requires.0 c.requires.2 c.read.result c.read.ensures) c.requires.2 c.requires.3 c.requires.1 _ (rw c.in-Err.is at c.restore.ensures)
