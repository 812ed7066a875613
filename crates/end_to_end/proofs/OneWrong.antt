-- One column is wrong, or none: locate and rewrite.
use mathlib.Core.Path.{◌≡◌, refl, sym, ap, ◌∙◌}
use mathlib.Core.Logic.{◌≢◌, ◌↔◌, ◌⊎◌, inl, inr, by_cases}
use mathlib.Core.Bool.{Bool, true, false, true≢false, not}
use mathlib.Core.List.{List, [], ◌∷◌}
use Prim.Native.Nat.{ℕ, ◌+◌, ◌≤◌, ◌<◌}
use native.Mathlib.Decide.{ℕ_discrete}
use native.Mathlib.Omega.{arith}
use lib.ListN.{length}
use Rattle.std.specs.Prelude.{Result, Ok, Err, ⊤}
use borrow.Author.Tests.{eq-eqb, ne_eqb}
use Rattle.parity.specs.Shape.{Shape, stripe_length, member}
use Rattle.parity.specs.Stripe.{Valid, Blank, Intact}
use Rattle.parity.specs.Presence.{differs, differing, AgreesBut, present, absences}
use Rattle.parity.specs.Theorems.{IntactOrBlank}
use Rattle.parity.proofs.Bytes.{stripe_ext}
use Rattle.parity.proofs.Columns.{same_column, differs_alike}
use Rattle.parity.proofs.Count.{few_pass, listed_pass}
use Rattle.parity.proofs.Theorems.{few_differ, intact_or_blank}
use Rattle.parity.proofs.TwoWrong.{near_two}
use Rattle.refusals.specs.declared.Refusal.{Refusal}
use Rattle.refusals.specs.declared.Refusal.TheVariants.{Contradicted, Unmendable}
use Rattle.refusals.specs.Refusals.{pass, refuse, verdict_of, Gives}
use Rattle.inputs.specs.Rules.{unmendable, stripe_rules}
use Rattle.refusals.proofs.Rules.{gives_one, gives_first, gives_next, gives_after, gives_passed, gives_rest, not_both, answer_refused, last_rule, rules_before}
use Rattle.inputs.proofs.Stripe.{stripe_given, stripe_passed}
use Rattle.checking.specs.declared.locates.Located.{Located}
use Rattle.checking.specs.declared.locates.Located.TheVariants as located
use Rattle.checking.specs.Locates.{locate_rules, OneDiffers, Found, Locates}
use Rattle.evenodd.specs.Rewrites.{column_rules, rewrite_rules, Rewrites}
use Rattle.end_to_end.specs.OneWrong.{SameWords, PairGivesBack, NothingToRewrite, NothingElseToRewrite, RewriteKeepsValid, AbsentAre, RestoreAsRewrite}
use Rattle.checking.proofs.LocateLaws.{locate_passed, valid_passes}
use Rattle.evenodd.proofs.RewriteLaws.{between, agrees_self, one_but, rewrite_told}
use Rattle.end_to_end.specs.OneOrNothing.{Fits, NoneFits, OneOrNothing}
use Rattle.end_to_end.proofs.OneOrNothing.{one_or_nothing, alone, gives_it}

-- rewrite of a column, where a valid stripe v agrees with all others: it passes, and leaves v
pub rewrite_leaves : (m k b u : ℕ) → Shape m k b → u < k + 2 → (s v after : List ℕ) → length s ≡ stripe_length m k b → Valid m k b v → AgreesBut m k b u s v
    → (q : Result ⊤ Refusal) → Rewrites m k b u s after q → (q ≡ Ok tt) × (after ≡ v)
rewrite_leaves m k b u h hu s v after whole vv a (Ok _) p = (refl, one_but m k b u h after v p.left.0 vv (between m k b u s s after v (agrees_self m k b u s) p.left.1 a))
rewrite_leaves m k b u h hu s v after whole vv a (Err f) p =
    absurd (not_both (rewrite_rules m k b u s) f (rewrite_told m k b u h s whole (gives_next (λ out. omega arith) (gives_next (λ none. none v vv a) refl))) p.told)

-- rewrite of the column in which alone a valid stripe differs: it passes, and leaves that one
pub rewrite_named : (m k b u : ℕ) → Shape m k b → (s after : List ℕ) → length s ≡ stripe_length m k b → (o : OneDiffers m k b s u)
    → (q : Result ⊤ Refusal) → Rewrites m k b u s after q → (q ≡ Ok tt) × (after ≡ o.other)
rewrite_named m k b u h s after whole o q p =
    rewrite_leaves m k b u h o.inside s o.other after whole o.valid (record { at = λ t ht ne. o.differ.at t ht ∙ ne_eqb u t (λ e. ne (sym e)) }) q p

pub nothing_to_rewrite : NothingToRewrite
unfolding NothingToRewrite differing
nothing_to_rewrite m k b column s after q p hu w =
    -- where locate gives 6, no test before it refuses, and its condition holds
    let (passed, six) = rules_before (stripe_rules m k b (length s)) (unmendable m k b s ∷ []) Unmendable
    (λ n _. omega (arith, n), (λ n _. omega (arith, n), (λ n _. omega (arith, n), (λ n _. omega (arith, n), tt)))) p.told in
    let (none, _) = last_rule six in
    let no : (v : List ℕ) → Valid m k b v → AgreesBut m k b column s v → ⊥ = λ v vv a. none v vv (few_pass (k + 2) column (differs m b s v) a.at) in
    answer_refused (rewrite_rules m k b column s) q w.told
    (gives_after (stripe_rules m k b (length s)) (column_rules m k b column s) _ passed (gives_next (λ out. omega arith) (gives_first no)))

pub nothing_else_to_rewrite : NothingElseToRewrite
unfolding NothingElseToRewrite
nothing_else_to_rewrite m k b u column s after (Ok _) p hc ne w =
    -- both leave valid stripes that differ in no other column than u and this one: they would be one, and in column u the first differs from s
    let (h, whole) = locate_passed m k b s p.told in
    let o = ((p.found refl).named u).0 refl in
    let e : after ≡ o.other
    = near_two m k b h after o.other w.left.0 o.valid column u (λ t ht nc nu. sym (differs_alike m b s after o.other t (w.left.1.at t ht nc)) ∙ o.differ.at t ht ∙ ne_eqb u t (λ q. nu (sym q))) in
    absurd (true≢false (sym (o.differ.at u o.inside ∙ eq-eqb u u refl) ∙ ap (λ z. differs m b s z u) (sym e) ∙ w.left.1.at u o.inside (λ q. ne (sym q))))
nothing_else_to_rewrite m k b u column s after (Err f) p hc ne w =
    let (h, whole) = locate_passed m k b s p.told in
    ap Err (five (gives_rest (stripe_rules m k b (length s)) (column_rules m k b column s) _ (stripe_passed m k b (length s) h whole) w.told))
  where
    five : Gives (column_rules m k b column s) (refuse f) → f ≡ Contradicted
    five (inl out) = absurd (omega (arith, out.0))
    five (inr (_, rest)) = (last_rule rest).1

pub rewrite_keeps_valid : RewriteKeepsValid
unfolding RewriteKeepsValid
rewrite_keeps_valid m k b column s after q h v hu p = rewrite_leaves m k b column h hu s s after v.stripe.whole v (agrees_self m k b column s) q p

-- locate passes a stripe that differs from a valid one in at most one column
near_passes : (m k b : ℕ) → Shape m k b → (s v : List ℕ) → length s ≡ stripe_length m k b → Valid m k b v → differing m k b s v ≤ 1
    → (r : Result Located Refusal) → Locates m k b s r → Found m k b s r
near_passes m k b h s v whole vv few r p =
    p.found (gives_one (locate_rules m k b s) _ _ p.told
    (gives_after (stripe_rules m k b (length s)) (unmendable m k b s ∷ []) pass (stripe_passed m k b (length s) h whole) (gives_next (λ c. c v vv few) refl)))

-- and names the column in which alone it does
pub locate_names : (m k b u : ℕ) → Shape m k b → (s : List ℕ) → length s ≡ stripe_length m k b → OneDiffers m k b s u
    → (r : Result Located Refusal) → Locates m k b s r → r ≡ Ok (located.Column u)
locate_names m k b u h s whole o r p = ((near_passes m k b h s o.other whole o.valid (few_differ m k b u s o.other o.differ) r p).named u).1 o

pub pair_gives_back : PairGivesBack
unfolding PairGivesBack differing
pair_gives_back m k b u fresh s wrong r enc st hu a p = (
  λ e. record { intact = λ n. found.intact.1 (rw e (valid, n)); blank = λ z. found.blank.1 (rw e z) },
  λ ne. record {
    named = locate_names m k b u h wrong st.whole (differ ne) r p;
    rewritten = λ after q w. rewrite_leaves m k b u h hu wrong s after st.whole valid a q w;
  },
)
  where
    h : Shape m k b
    h = (stripe_given m k b (length fresh) enc.told).0

    valid : Valid m k b s
    valid = enc.written.0

    found : Found m k b wrong r
    found = near_passes m k b h wrong s st.whole valid (few_pass (k + 2) u (differs m b wrong s) a.at) r p

    -- column u differs, or nothing does
    same : differs m b wrong s u ≡ false → wrong ≡ s
    same e = stripe_ext m k b h.value.prime.big h.filled wrong s st.whole valid.stripe.whole (λ l i t hl hi ht.
        by_cases (ℕ_discrete t u)
        (λ q. same_column m b wrong s t (ap (differs m b wrong s) q ∙ e) l i hl hi)
        (λ q. same_column m b wrong s t (a.at t ht q) l i hl hi))

    differ : wrong ≢ s → OneDiffers m k b wrong u
    differ ne = record {
      inside = hu;
      other = s;
      valid = valid;
      differ = record {
        at = λ t ht. by_cases (ℕ_discrete t u) (λ q. ap (differs m b wrong s) q ∙ so (differs m b wrong s u) refl ∙ sym (eq-eqb u t (sym q))) (λ q. a.at t ht q ∙ sym (ne_eqb u t (λ d. q (sym d))));
      };
    }
      where
        so : (d : Bool) → differs m b wrong s u ≡ d → d ≡ true
        so true e = refl
        so false e = absurd (ne (same e))

-- ---- intact and blank

pub same_words : SameWords
unfolding SameWords IntactOrBlank
same_words m k b s r q st c p = (
  (
    λ e.
        let i = (c.counted (ap verdict_of e)).intact.0 e in
        let v = told.0.1 (inl i) in
        (p.found (locate_passes (rw e at c.told) v)).intact.1 (v, told.1 i),
    λ e. let (v, n) = (p.found (ap verdict_of e)).intact.0 e in (c.counted (check_passes (rw e at p.told))).intact.1 (intact v n),
  ),
  (
    λ e. let z = (c.counted (ap verdict_of e)).blank.0 e in (p.found (locate_passes (rw e at c.told) (told.0.1 (inr z)))).blank.1 z,
    λ e. (c.counted (check_passes (rw e at p.told))).blank.1 ((p.found (ap verdict_of e)).blank.0 e),
  ),
)
  where
    told : (Valid m k b s ↔ (Intact m k b s ⊎ Blank m k b s)) × (Intact m k b s → Blank m k b s → ⊥)
    told = intact_or_blank m k b s st

    intact : Valid m k b s → (Blank m k b s → ⊥) → Intact m k b s
    intact v n = elim (told.0.0 v) [ inl i ↦ i | inr z ↦ absurd (n z) ]

    -- where one of the two passes a valid stripe, the other does
    locate_passes : Gives (stripe_rules m k b (length s)) pass → Valid m k b s → verdict_of q ≡ pass
    locate_passes g v = gives_one (locate_rules m k b s) _ _ p.told (valid_passes m k b (stripe_given m k b (length s) g).0 s st v.lanes)

    check_passes : Gives (locate_rules m k b s) pass → verdict_of r ≡ pass
    check_passes g = gives_one (stripe_rules m k b (length s)) _ _ c.told (gives_passed (stripe_rules m k b (length s)) (unmendable m k b s ∷ []) g).0

-- ---- restore and rewrite of one column

-- columns that are absent, by the list of them
module _ (k : ℕ) (columns : List ℕ) (map : List Bool) (a : AbsentAre k columns map) where
  read : (t : ℕ) → t < k + 2 → member t columns ≡ false → present map t ≡ true
  read t ht e = a.at t ht ∙ ap not e

  pub not_read : (t : ℕ) → t < k + 2 → present map t ≡ true → member t columns ≡ false
  not_read t ht p = unlisted (member t columns) (sym (a.at t ht) ∙ p)
    where
      unlisted : (c : Bool) → not c ≡ true → c ≡ false
      unlisted true e = sym e
      unlisted false e = refl

  pub few_absent : absences k map ≤ length columns
  unfolding absences
  few_absent = listed_pass (k + 2) columns (λ t. not (present map t)) (λ t ht e. ap not (read t ht e))

pub restore_as_rewrite : RestoreAsRewrite
unfolding RestoreAsRewrite OneOrNothing
restore_as_rewrite m k b column map s before after left r (Ok _) a inside absent few p w =
    let fits : Fits m k b map.places s left
    = record { valid = w.left.0; agrees = record { at = λ t ht here. w.left.1.at t ht (λ e. true≢false (sym here ∙ ap (present map.places) e ∙ absent)) } } in
    (λ _. gives_it m k b map s before after left r a p (alone m k b a.shape map.places s left few fits), λ _ e. absurd (true≢false cc))
restore_as_rewrite m k b column map s before after left r (Err f) a inside absent few p w =
    (λ e. absurd (true≢false cc), λ only _. (one_or_nothing m k b map s before after r a p).contradicted.1 (none only asked))
  where
    asked : Gives (column_rules m k b column s) (refuse f)
    asked = gives_rest (stripe_rules m k b (length s)) (column_rules m k b column s) _ (stripe_passed m k b (length s) a.shape a.stripe.whole) w.told

    none : AbsentAre k (column ∷ []) map.places → Gives (column_rules m k b column s) (refuse f) → NoneFits m k b map.places s
    none only (inl out) = absurd (omega (arith, out.0))
    none only (inr (_, rest)) =
        λ v f. (last_rule rest).0 v f.valid (record { at = λ t ht ne. f.agrees.at t ht (read k (column ∷ []) map.places only t ht (rw (ne_eqb column t (λ q. ne (sym q))) refl)) })
