-- Each promise determines the answer: the proofs of the statements in specs/Determined. A list of rules gives one verdict.
use mathlib.Core.Path.{◌≡◌, refl, sym, ap₂, ◌∙◌}
use lib.ListN.{length}
use Rattle.std.specs.Prelude.{Result, Ok}
use Rattle.refusals.specs.declared.Refusal.{Refusal}
use Rattle.inputs.specs.Rules.{stripe_rules}
use Rattle.refusals.proofs.Rules.{both_answers}
use Rattle.checking.specs.declared.checks.Checked.{Checked}
use Rattle.checking.specs.declared.checks.Checked.TheVariants as checked
use Rattle.checking.specs.declared.locates.Located.{Located}
use Rattle.checking.specs.declared.locates.Located.TheVariants as located
use Rattle.checking.specs.Checks.{Checks}
use Rattle.checking.specs.Locates.{locate_rules, Locates}
use Rattle.checking.specs.Determined.{ChecksOne, LocatesOne}

pub checks_one : ChecksOne
unfolding ChecksOne
checks_one m k b s r q u v =
    both_answers (stripe_rules m k b (length s)) (λ r q. Checks m k b s r → Checks m k b s q → r ≡ q) passed (λ f _ _. refl) r q u.told v.told u v
  where
    passed : (x y : Checked) → Checks m k b s (Ok x) → Checks m k b s (Ok y) → ◌≡◌ {A = Result Checked Refusal} (Ok x) (Ok y)
    passed checked.Intact y p h = sym ((h.counted refl).intact.1 ((p.counted refl).intact.0 refl))
    passed checked.Blank y p h = sym ((h.counted refl).blank.1 ((p.counted refl).blank.0 refl))
    passed (checked.Broken x y) checked.Intact p h = (p.counted refl).intact.1 ((h.counted refl).intact.0 refl)
    passed (checked.Broken x y) checked.Blank p h = (p.counted refl).blank.1 ((h.counted refl).blank.0 refl)
    passed (checked.Broken x y) (checked.Broken u v) p h =
        let c = p.counted refl in let d = h.counted refl in ap₂ (λ x y. Ok (checked.Broken x y)) (c.rows ∙ sym d.rows) (c.diagonals ∙ sym d.diagonals)

pub locates_one : LocatesOne
unfolding LocatesOne
locates_one m k b s r q u v =
    both_answers (locate_rules m k b s) (λ r q. Locates m k b s r → Locates m k b s q → r ≡ q) passed (λ f _ _. refl) r q u.told v.told u v
  where
    passed : (x y : Located) → Locates m k b s (Ok x) → Locates m k b s (Ok y) → ◌≡◌ {A = Result Located Refusal} (Ok x) (Ok y)
    passed located.Intact y p h = sym ((h.found refl).intact.1 ((p.found refl).intact.0 refl))
    passed located.Blank y p h = sym ((h.found refl).blank.1 ((p.found refl).blank.0 refl))
    passed (located.Column u) y p h = sym (((h.found refl).named u).1 (((p.found refl).named u).0 refl))
