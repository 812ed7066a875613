-- `locating::find_turn` meets its contract: the first column by which the rows' amounts are turned to the diagonals' is found.
use mathlib.Core.Path.{◌≡◌, refl, sym, subst, ◌∙◌}
use Prim.Native.Nat.{ℕ, ◌+◌, ◌-◌, ◌<◌}
use lib.ListN.{length, get_or}
use borrow.Author.Rules.{rules}
use native.Mathlib.Omega.{arith}
use Rattle.std.specs.Prelude.{Option, Some, None}
use Rattle.std.specs.Option.{MatchOption}
use Rattle.std.specs.List.{range_with_len, AllWithin, HoldsAt}
use Rattle.std.proofs.lemmas.Iterator.{YieldsList-from_range, first_from_find}
use Rattle.std.proofs.lemmas.List.FromFn.{length-range_with_len, get_or-range_with_len}
use Rattle.locating.specs.Locating.{SomeSet, TurnedAmounts, Blames}
use Rattle.locating.proofs.Fitting.{fit_data, fit_none}
use Rattle.locating.proofs.find_turn.Goals as goal

first : (m k : ℕ) (h d : ℕ → ℕ) → SomeSet (m - 1) h → SomeSet (m - 1) d → (r : Option ℕ)
    → MatchOption r (AllWithin (λ u. TurnedAmounts m h d u → ⊥) (range_with_len 0 k) 0 (length (range_with_len 0 k)))
    (λ u. TurnedAmounts m h d u × (i : ℕ) × (i < length (range_with_len 0 k)) × HoldsAt (λ y. y ≡ u) (range_with_len 0 k) i
    × AllWithin (λ v. TurnedAmounts m h d v → ⊥) (range_with_len 0 k) 0 i)
    → Blames m k h d r
first m k h d rows diagonals (Some u) (turned, i, l, is, _) =
    let long = length-range_with_len 0 k in
    let e : u ≡ 0 + i = sym (is 0) ∙ get_or-range_with_len 0 k i 0 (omega arith) in
    (omega arith, fit_data m k h d u (omega arith) turned)
first m k h d rows diagonals None none =
    let long = length-range_with_len 0 k in
    fit_none m k h d (λ x l. let e : get_or (range_with_len 0 k) x 0 ≡ x = get_or-range_with_len 0 k x 0 l ∙ omega arith in
    subst (λ u. TurnedAmounts m h d u → ⊥) e (none x 0 (omega arith) (omega arith))) diagonals rows

pub returns : goal.returns
returns c =
    let a = c.args in
    let h : ℕ → ℕ = λ i. get_or a.h.now i 0 in
    let d : ℕ → ℕ = λ i. get_or a.d.now i 0 in
    first a.m a.k h d c.requires.2 c.requires.3 c.find.result
    (first_from_find _ _ _ (TurnedAmounts a.m h d) (λ u. TurnedAmounts a.m h d u → ⊥) c.find.ensures.ran (YieldsList-from_range 0 a.k a.k refl (omega arith))
    (λ x q called. search rules) (λ x q called. search rules))
