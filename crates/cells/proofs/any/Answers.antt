-- `cells::any` meets its contract: what was or-ed together so far tells of the bytes so far.
use mathlib.Core.Path.{◌≡◌, subst}
use mathlib.Core.List.{List}
use Prim.Native.Nat.{ℕ}
use lib.Bits.{bit_or}
use lib.ListN.{length, get_or}
use borrow.Author.Rules.{rules}
use Rattle.std.proofs.lemmas.Fn.{fold_over, fronts, slice_gives}
use Rattle.cells.specs.Runs.{Tells}
use Rattle.cells.proofs.Tells.{tells_none, tells_push}
use Rattle.cells.proofs.any.Goals as goal

pub returns : goal.returns
returns c =
    let tells : List ℕ → ℕ → Type 0 = λ ys o. Tells o (length ys) (λ l. get_or ys l 0) in
    subst (λ (ys : List ℕ). Tells c.fold.result (length ys) (λ l. get_or ys l 0)) c.iter.ensures.rest
    (fold_over fronts (λ y. y.now) _ tells _ (λ ys o x r f so call. let e : r ≡ bit_or o x.now = search rules in (rw e (tells_push ys o x.now so), search rules))
    c.iter.result c.iter.result.rest.now 0 c.fold.result (slice_gives c.iter.result) (tells_none _) c.fold.ensures.ran)
