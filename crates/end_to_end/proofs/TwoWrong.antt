-- Two wrong columns: the proofs of the statements about a valid stripe of which exactly two columns were changed.
use mathlib.Core.Path.{◌≡◌, refl, sym, ap, ◌∙◌}
use mathlib.Core.Logic.{◌≢◌, ◌⊎◌, inl, inr}
use mathlib.Core.Bool.{Bool, true, false, true≢false}
use mathlib.Core.List.{List, [], ◌∷◌}
use Prim.Native.Nat.{ℕ, ◌+◌, ◌<◌}
use lib.ListN.{length}
use Rattle.std.specs.Prelude.{Result, Ok, Err}
use borrow.Author.Tests.{eq-eqb}
use Rattle.parity.specs.Shape.{Shape}
use Rattle.parity.specs.Stripe.{Valid, Blank, Intact}
use Rattle.parity.specs.Presence.{present, differs, Agrees}
use Rattle.parity.specs.Theorems.{ExactlyOne, IntactOrBlank, TwoChanged, TwoWrong, AnyThird}
use Rattle.parity.proofs.Columns.{differs_back, differs_alike, differs_apart}
use Rattle.parity.proofs.Theorems.{exactly_one, intact_or_blank}
use Rattle.parity.proofs.TwoWrong.{first_changed, second_changed, others_same, near_two, two_wrong, any_third}
use Rattle.refusals.specs.declared.Refusal.{Refusal}
use Rattle.refusals.specs.declared.Refusal.TheVariants.{Contradicted, Unmendable}
use Rattle.refusals.specs.Refusals.{pass, Gives}
use Rattle.refusals.proofs.Rules.{gives_one, gives_rest, not_both, last_rule}
use Rattle.inputs.specs.Rules.{unmendable, stripe_rules}
use Rattle.inputs.proofs.Stripe.{stripe_passed}
use Rattle.checking.specs.declared.checks.Checked.{Checked}
use Rattle.checking.specs.declared.checks.Checked.TheVariants as checked
use Rattle.checking.specs.declared.locates.Located.{Located}
use Rattle.checking.specs.declared.locates.Located.TheVariants as located
use Rattle.checking.specs.Checks.{Checks}
use Rattle.checking.specs.Locates.{Locates}
use Rattle.end_to_end.specs.OneOrNothing.{Fits, NoneFits, OneOrNothing}
use Rattle.end_to_end.specs.TwoWrong.{SixOrAThird, AnyThirdNamed, RewriteSeals, OneOfTwoAbsent, BothAbsent, OtherTwoAbsent}
use Rattle.checking.proofs.LocateLaws.{locate_passed}
use Rattle.end_to_end.proofs.OneOrNothing.{one_or_nothing, alone, gives_it}
use Rattle.end_to_end.proofs.OneWrong.{rewrite_named, locate_names, not_read, few_absent}

-- ---- what check and locate say

pub six_or_a_third : SixOrAThird
unfolding SixOrAThird TwoWrong IntactOrBlank
six_or_a_third m k b x y s wrong r q h c checks locates = (
  λ e. broken (inl ((checks.counted (rw e refl)).intact.0 e)),
  λ e. broken (inr ((checks.counted (rw e refl)).blank.0 e)),
  λ f e. not_both (stripe_rules m k b (length wrong)) f tested (rw e at checks.told),
  told q locates,
)
  where
    tested : Gives (stripe_rules m k b (length wrong)) pass
    tested = stripe_passed m k b (length wrong) h c.stripe.whole

    wrongly : Valid m k b wrong → ⊥
    wrongly = (two_wrong m k b h x y s wrong c).0

    broken : Intact m k b wrong ⊎ Blank m k b wrong → ⊥
    broken e = wrongly ((intact_or_blank m k b wrong c.stripe).0.1 e)

    told : (q : Result Located Refusal) → Locates m k b wrong q → (q ≡ Err Unmendable) ⊎ ((u : ℕ) × (q ≡ Ok (located.Column u)) × (u < k + 2) × (u ≢ x) × (u ≢ y))
    told (Ok located.Intact) p = absurd (wrongly ((p.found refl).intact.0 refl).0)
    told (Ok located.Blank) p = absurd (broken (inr ((p.found refl).blank.0 refl)))
    told (Ok (located.Column u)) p =
        let o = ((p.found refl).named u).0 refl in
        let third = (two_wrong m k b h x y s wrong c).1 u o.other o.inside o.valid o.differ in
        inr (u, refl, o.inside, third.0, third.1)
    told (Err f) p = inl (ap Err (last_rule (gives_rest (stripe_rules m k b (length wrong)) (unmendable m k b wrong ∷ []) _ tested p.told)).1)

pub any_third_named : AnyThirdNamed
unfolding AnyThirdNamed AnyThird
any_third_named m k b x y u s h v hx hy hu ne nx ny =
    let (wrong, c, other) = any_third m k b h x y u hx hy hu ne nx ny s v in
    (wrong, c, λ q p. locate_names m k b u h wrong c.stripe.whole (record { inside = hu; other = other.0; valid = other.1; differ = other.2 }) q p)

-- check calls a valid stripe intact, or blank
said_of_valid : (m k b : ℕ) → Shape m k b → (s : List ℕ) → Valid m k b s → (r : Result Checked Refusal) → Checks m k b s r → (r ≡ Ok checked.Intact) ⊎ (r ≡ Ok checked.Blank)
unfolding IntactOrBlank
said_of_valid m k b h s v r p =
    let c = p.counted (gives_one (stripe_rules m k b (length s)) _ _ p.told (stripe_passed m k b (length s) h v.stripe.whole)) in
    elim ((intact_or_blank m k b s v.stripe).0.0 v) [ inl i ↦ inl (c.intact.1 i) | inr z ↦ inr (c.blank.1 z) ]

pub rewrite_seals : RewriteSeals
unfolding RewriteSeals TwoWrong
rewrite_seals m k b x y u s wrong after q c p w =
    let (h, whole) = locate_passed m k b wrong p.told in
    let o = ((p.found refl).named u).0 refl in
    let (done, e) = rewrite_named m k b u h wrong after whole o q w in
    let (nx, ny, differ, three) = (two_wrong m k b h x y s wrong c).1 u o.other o.inside o.valid o.differ in (
      done,
      rw e o.valid,
      rw e differ,
      rw e three,
      λ same. differs_apart m b s o.other x (differ.at x c.first ∙ rw (eq-eqb x x refl) refl) (sym same ∙ e),
      said_of_valid m k b h after (rw e o.valid),
    )

-- ---- what restore says

module _ (m k b x y : ℕ) (s wrong : List ℕ) (c : TwoChanged m k b x y s wrong) where
  -- with no column absent but one of the two no valid stripe fits: it would be s, which has another content in the other
  none_fits : (h : Shape m k b) (one other : ℕ) → other < k + 2 → one ≢ other → differs m b s wrong other ≡ true
      → ((t : ℕ) → t < k + 2 → t ≢ one → t ≢ other → differs m b s wrong t ≡ false) → (map : List Bool) → ((t : ℕ) → t < k + 2 → t ≢ one → present map t ≡ true) → NoneFits m k b map wrong
  none_fits h one other ho ne there same map all v f =
      let at : (t : ℕ) → t < k + 2 → t ≢ one → differs m b wrong v t ≡ false = λ t ht n. f.agrees.at t ht (all t ht n) in
      let e : s ≡ v = near_two m k b h s v c.valid f.valid one other (λ t ht n o. differs_alike m b s wrong v t (same t ht n o) ∙ at t ht n) in
      true≢false (sym there ∙ differs_back m b s wrong other ∙ ap (λ z. differs m b wrong z other) e ∙ at other ho (λ q. ne (sym q)))

  -- a column that was changed and is present: no stripe that fits is s
  not_first : (t : ℕ) → t < k + 2 → differs m b s wrong t ≡ true → (map : List Bool) → present map t ≡ true → (v : List ℕ) → Fits m k b map wrong v → v ≢ s
  not_first t ht there map p v f e = true≢false (sym there ∙ differs_back m b s wrong t ∙ ap (λ z. differs m b wrong z t) (sym e) ∙ f.agrees.at t ht p)

pub one_of_two_absent : OneOfTwoAbsent
unfolding OneOfTwoAbsent OneOrNothing
one_of_two_absent m k b x y one map s wrong before after r c a which all p =
    let g = one_or_nothing m k b map wrong before after r a p in
    let five = g.contradicted.1 (none which) in
    (five, (g.refused Contradicted five).1)
  where
    none : (one ≡ x) ⊎ (one ≡ y) → NoneFits m k b map.places wrong
    none (inl e) =
        none_fits m k b x y s wrong c a.shape x y c.second c.apart (second_changed m k b x y s wrong c) (others_same m k b x y s wrong c) map.places
        (rw e at all)
    none (inr e) =
        none_fits m k b x y s wrong c a.shape y x c.first (λ q. c.apart (sym q)) (first_changed m k b x y s wrong c) (λ t ht ny nx. others_same m k b x y s wrong c t ht nx ny) map.places
        (rw e at all)

pub both_absent : BothAbsent
unfolding BothAbsent
both_absent m k b x y map s wrong before after r c a absent p = gives_it m k b map wrong before after s r a p
    (alone m k b a.shape map.places wrong s (few_absent k (x ∷ y ∷ []) map.places absent) (record { valid = c.valid; agrees = agrees }))
  where
    agrees : Agrees m k b map.places wrong s
    agrees = record { at = λ t ht here. sym (differs_back m b s wrong t) ∙ c.differ.at t ht ∙ not_read k (x ∷ y ∷ []) map.places absent t ht here }

pub other_two_absent : OtherTwoAbsent
unfolding OtherTwoAbsent ExactlyOne
other_two_absent m k b x y map s wrong before after r c a two some p =
    let (v, valid, agrees, only) = exactly_one m k b a.shape map.places two wrong a.stripe in
    let fits : Fits m k b map.places wrong v = record { valid = valid; agrees = agrees } in
    let (passed, together) = gives_it m k b map wrong before after v r a p (record { fits = fits; only = λ w f. only w f.valid f.agrees }) in
    (passed, (v, valid, together, another v fits some))
  where
    another : (v : List ℕ) → Fits m k b map.places wrong v → (present map.places x ≡ true) ⊎ (present map.places y ≡ true) → v ≢ s
    another v f (inl e) = not_first m k b x y s wrong c x c.first (first_changed m k b x y s wrong c) map.places e v f
    another v f (inr e) = not_first m k b x y s wrong c y c.second (second_changed m k b x y s wrong c) map.places e v f
