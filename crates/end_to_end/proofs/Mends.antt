-- Locate and rewrite together keep what mend promised, and that determines what mend told.
use mathlib.Core.Path.{◌≡◌, refl, sym, ◌∙◌}
use mathlib.Core.Bool.{true≢false}
use mathlib.Core.List.{List}
use Prim.Native.Nat.{ℕ}
use native.Mathlib.Omega.{arith}
use Rattle.std.specs.Prelude.{Result, Ok, Err}
use borrow.Author.Tests.{ne_eqb}
use Rattle.parity.specs.Stripe.{Valid}
use Rattle.parity.proofs.Columns.{column_same}
use Rattle.parity.proofs.Theorems.{blank_valid, one_wrong}
use Rattle.refusals.specs.declared.Refusal.{Refusal}
use Rattle.refusals.specs.Refusals.{pass, verdict_of}
use Rattle.refusals.proofs.Rules.{passes_not, gives_one, not_both}
use Rattle.inputs.proofs.ShapeLaws.{places_most}
use Rattle.checking.specs.declared.locates.Located.{Located}
use Rattle.checking.specs.declared.locates.Located.TheVariants as located
use Rattle.checking.specs.Locates.{locate_rules, column_of, Locates}
use Rattle.end_to_end.specs.Mends.{Mends, PairMends, MendsOne}
use Rattle.checking.proofs.LocateLaws.{not_one, locate_passed}
use Rattle.parity.specs.Theorems.{OneWrong}
use Rattle.end_to_end.proofs.OneWrong.{rewrite_named}

-- a stripe that is called intact or blank is valid, and stays as it is
kept_mends : (m k b : ℕ) (before after : List ℕ) (r : Result Located Refusal) → Locates m k b before r → verdict_of r ≡ pass → column_of r ≡ 129
    → ((u : ℕ) → r ≡ Ok (located.Column u) → ⊥) → Valid m k b before → after ≡ before → Mends m k b before after r
kept_mends m k b before after r p passed none other v e = record {
  told = p.told;
  valid = λ _. rw e v;
  differed = λ _. record {
    at = λ t ht. rw (e, none) (column_same m b before before t (λ l i hl hi. refl)
        ∙ sym (ne_eqb 129 t (λ x. omega (arith, places_most (locate_passed m k b before (rw passed at p.told)).0))));
  };
  kept = λ _. e;
  named = λ u x. absurd (other u x);
}

pub pair_mends : PairMends
unfolding PairMends
pair_mends m k b before after (Ok located.Intact) q p =
    let other : (u : ℕ) → ◌≡◌ {A = Result Located Refusal} (Ok located.Intact) (Ok (located.Column u)) → ⊥ = λ u x. true≢false cc in
    (kept_mends m k b before after (Ok located.Intact) p.looked refl refl other ((p.looked.found refl).intact.0 refl).0 (p.kept refl), λ u x. absurd (other u x))
pair_mends m k b before after (Ok located.Blank) q p =
    let other : (u : ℕ) → ◌≡◌ {A = Result Located Refusal} (Ok located.Blank) (Ok (located.Column u)) → ⊥ = λ u x. true≢false cc in
    let (shape, whole) = locate_passed m k b before p.looked.told in (
      kept_mends m k b before after (Ok located.Blank) p.looked refl refl other (blank_valid m k b before shape whole ((p.looked.found refl).blank.0 refl)) (p.kept refl),
      λ u x. absurd (other u x),
    )
pair_mends m k b before after (Ok (located.Column u)) q p =
    let (h, whole) = locate_passed m k b before p.looked.told in
    let o = ((p.looked.found refl).named u).0 refl in
    let (done, e) = rewrite_named m k b u h before after whole o q (p.rewrote u refl) in (
      record {
        told = p.looked.told;
        valid = λ _. rw e o.valid;
        differed = λ _. rw e o.differ;
        kept = λ x. absurd (omega (arith, o.inside, places_most h));
        named = λ w x. let same : u ≡ w = cc in rw same at o.inside;
      },
      λ w x. done,
    )
pair_mends m k b before after (Err f) q p = (
  record {
    told = p.looked.told;
    valid = λ x. absurd (passes_not f (sym x));
    differed = λ x. absurd (passes_not f (sym x));
    kept = λ _. p.kept refl;
    named = λ u x. absurd (true≢false cc);
  },
  λ u x. absurd (true≢false cc),
)

-- ---- it determines what mend told

module _ (m k b : ℕ) (s : List ℕ) where
  -- one of two that names no column: the stripe is valid, so the other names none either, and both leave it as it was
  none_named : {x y : List ℕ} (a c : Located) → column_of (Ok a) ≡ 129 → Mends m k b s x (Ok a) → Mends m k b s y (Ok c) → (column_of (Ok c) ≡ 129) × (x ≡ y)
  none_named a located.Intact none p h = (refl, p.kept none ∙ sym (h.kept refl))
  none_named a located.Blank none p h = (refl, p.kept none ∙ sym (h.kept refl))
  none_named {x} {y} a (located.Column v) none p h =
      absurd (not_one m k b (locate_passed m k b s h.told).0 s y v (h.named v refl) (rw (p.kept none) at (p.valid refl)) (h.valid refl) (h.differed refl))

  found_alike : {x y : List ℕ} (a c : Located) → Mends m k b s x (Ok a) → Mends m k b s y (Ok c) → (column_of (Ok a) ≡ column_of (Ok c)) × (x ≡ y)
  unfolding OneWrong
  found_alike located.Intact c p h = let (none, e) = none_named located.Intact c refl p h in (sym none, e)
  found_alike located.Blank c p h = let (none, e) = none_named located.Blank c refl p h in (sym none, e)
  found_alike (located.Column u) located.Intact p h = let (none, e) = none_named located.Intact (located.Column u) refl h p in (none, sym e)
  found_alike (located.Column u) located.Blank p h = let (none, e) = none_named located.Blank (located.Column u) refl h p in (none, sym e)
  found_alike {x} {y} (located.Column u) (located.Column v) p h =
      one_wrong m k b (locate_passed m k b s p.told).0 s x y u v (p.named u refl) (h.named v refl) (p.valid refl) (h.valid refl) (p.differed refl) (h.differed refl)

  alike : {x y : List ℕ} (r q : Result Located Refusal) → Mends m k b s x r → Mends m k b s y q → (column_of r ≡ column_of q) × (x ≡ y)
  alike (Ok a) (Ok c) p h = found_alike a c p h
  alike (Ok a) (Err g) p h = absurd (not_both (locate_rules m k b s) g p.told h.told)
  alike (Err f) (Ok c) p h = absurd (not_both (locate_rules m k b s) f h.told p.told)
  alike (Err f) (Err g) p h = (refl, p.kept refl ∙ sym (h.kept refl))

pub mends_one : MendsOne
unfolding MendsOne
mends_one m k b s x y r q p h = let (column, left) = alike m k b s r q p h in (gives_one (locate_rules m k b s) _ _ p.told h.told, column, left)
