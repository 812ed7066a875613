-- Each promise determines its result: the proofs of the statements in specs/Determined.
-- A list of rules gives one verdict, and where it passes the promise says the rest.
use mathlib.Core.Path.{◌≡◌, refl, sym, ap, ap₂, ◌∙◌}
use mathlib.Core.List.{List}
use Prim.Native.Nat.{ℕ, ◌+◌}
use lib.ListN.{length}
use Rattle.refusals.specs.Refusals.{verdict_of, Rule, Gives}
use Rattle.refusals.proofs.Rules.{both_answers, first_not, first_one}
use Rattle.maps.proofs.Determined.{counts_one}
use Rattle.std.specs.Prelude.{Result, Ok, Err}
use Rattle.refusals.specs.declared.Refusal.{Refusal}
use Rattle.inputs.specs.declared.lists.ListRefusal.TheVariants.{Whole, Item}
use Rattle.inputs.specs.Rules.{shape_rules, stripe_rules, map_rules, lent_rules, gap_rules, list_rules}
use Rattle.inputs.specs.Shapes.{good_column}
use Rattle.inputs.specs.Tests.{GoodGaps}
use Rattle.inputs.specs.Lists.{rules_of}
use Rattle.inputs.specs.Determined.{JudgesOne, ShapesPass, JudgesStripeOne, JudgesMapOne, JudgesLentOne, JudgesGapsOne, JudgesListsOne, JudgesItemsOne}
use Rattle.inputs.proofs.ShapeLaws.{shape_passes, passes_shape}

-- two answers that the same rules give, and that say the same column, are one
judged_one : (rules : List Rule) (m b : ℕ) (r q : Result ℕ Refusal) → Gives rules (verdict_of r) → good_column m b r → Gives rules (verdict_of q) → good_column m b q → r ≡ q
judged_one rules m b r q x u y v = both_answers rules (λ r q. good_column m b r → good_column m b q → r ≡ q) (λ c d u v. ap Ok (u ∙ sym v)) (λ f _ _. refl) r q x y u v

pub judges_one : JudgesOne
unfolding JudgesOne
judges_one m k b r q x y = judged_one (shape_rules m k b) m b r q x.told x.column y.told y.column

pub shapes_pass : ShapesPass
unfolding ShapesPass
shapes_pass m k b = (passes_shape m k b, shape_passes m k b)

pub judges_stripe_one : JudgesStripeOne
unfolding JudgesStripeOne
judges_stripe_one m k b n r q x y = judged_one (stripe_rules m k b n) m b r q x.told x.column y.told y.column

pub judges_map_one : JudgesMapOne
unfolding JudgesMapOne
judges_map_one k map r q x y = both_answers (map_rules k map) (λ r q. r ≡ q) (λ _ _. refl) (λ f. refl) r q x.told y.told

pub judges_lent_one : JudgesLentOne
unfolding JudgesLentOne
judges_lent_one m k b map n w r q x y = judged_one (lent_rules m k b map n w) m b r q x.told x.column y.told y.column

pub judges_gaps_one : JudgesGapsOne
unfolding JudgesGapsOne
judges_gaps_one m k b map n w r q x y =
    both_answers (gap_rules m k b map n w) (λ r q. GoodGaps m k b map r → GoodGaps m k b map q → r ≡ q)
    (λ c d u v. ap₂ (λ x y. Ok (x, y)) (u.0 ∙ sym v.0) (counts_one (k + 2) map.places c.1 d.1 u.1 v.1)) (λ f _ _. refl) r q x.told y.told x.good y.good

pub judges_lists_one : JudgesListsOne
unfolding JudgesListsOne
judges_lists_one m k b n columns rows cells r q x y = judged_one (list_rules m k b n columns rows cells) m b r q x.told x.column y.told y.column

pub judges_items_one : JudgesItemsOne
unfolding JudgesItemsOne
judges_items_one m k columns rows (Ok _) (Ok _) x y = refl
judges_items_one m k columns rows (Ok _) (Err (Whole g)) x y = absurd y
judges_items_one m k columns rows (Ok _) (Err (Item i g)) x y = absurd (first_not (rules_of m k columns rows) (length columns) x y)
judges_items_one m k columns rows (Err (Whole f)) _ x y = absurd x
judges_items_one m k columns rows (Err (Item i f)) (Ok _) x y = absurd (first_not (rules_of m k columns rows) (length columns) y x)
judges_items_one m k columns rows (Err (Item i f)) (Err (Whole g)) x y = absurd y
judges_items_one m k columns rows (Err (Item i f)) (Err (Item j g)) x y =
    let (item, refusal) = first_one (rules_of m k columns rows) (length columns) x y in ap₂ (λ x y. Err (Item x y)) item refusal
