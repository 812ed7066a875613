-- Restore gives the one stripe, or nothing.
use mathlib.Core.Path.{◌≡◌, refl, sym, ap, ◌∙◌}
use mathlib.Core.Logic.{inl, inr, by_cases}
use mathlib.Core.Bool.{Bool, true, false, cond}
use mathlib.Core.List.{List, [], ◌∷◌}
use Prim.Native.Nat.{ℕ, ◌+◌, ◌-◌, ◌≤◌, ◌<◌}
use native.Mathlib.Decide.{dec_lt}
use native.Mathlib.Omega.{arith}
use lib.ListN.{length}
use Rattle.std.specs.Prelude.{Result, Err}
use borrow.Author.Tests.{lt-ltb}
use Rattle.parity.specs.Stripe.{byte}
use Rattle.parity.specs.Presence.{present, absences, Agrees}
use Rattle.parity.specs.Theorems.{AtMostOne, NeverOne}
use Rattle.parity.proofs.Columns.{same_column, differs_back}
use Rattle.parity.proofs.Theorems.{at_most_one, never_one}
use Rattle.refusals.specs.declared.Refusal.{Refusal}
use Rattle.refusals.specs.declared.Refusal.TheVariants.{Ambiguous, Contradicted}
use Rattle.refusals.specs.Refusals.{number_of, pass, refuse, verdict_of, Gives}
use Rattle.maps.specs.Absent.{absent_below}
use Rattle.inputs.specs.Rules.{too_many_absent, contradicted, lent_rules, gap_rules, restore_rules}
use Rattle.maps.proofs.Absent.{absences_below, below_under, nth_one, absent_nth}
use Rattle.refusals.proofs.Rules.{passes_not, refuse_one, gives_one, gives_next, gives_after, gives_rest, refused_by}
use Rattle.inputs.proofs.Stripe.{stripe_given}
use Rattle.inputs.proofs.Tests.{lent_passed, gaps_passed}
use Rattle.evenodd.specs.Restores.{RestoredFrom, Restores}
use Rattle.evenodd.specs.Shows.{half}
use Rattle.end_to_end.specs.OneOrNothing.{Fits, FitsAlone, Together, GivesTheOne, OneOrNothing, RestoreGivesBack, Asked}
use Rattle.parity.specs.Shape.{Shape, stripe_length}
use Rattle.maps.specs.declared.Gaps.{Gaps}
use Rattle.maps.specs.declared.Map.{Map}

agrees_back : (m k b : ℕ) (map : List Bool) (s v : List ℕ) → Agrees m k b map s v → Agrees m k b map v s
agrees_back m k b map s v a = record { at = λ t ht p. differs_back m b v s t ∙ a.at t ht p }

-- stripe and bench together are the stripe that the bench is of
module _ {m k b : ℕ} {map : List Bool} {s before after : List ℕ} {n first second : ℕ} (few : absences k map ≤ 2) (u : RestoredFrom m k b map s before after n first second) where
  pub together : Together m k b map s after u.stripe
  unfolding half
  together = record { at = λ l i t hl hi ht. go l i t hl hi ht (present map t) refl }
    where
      go : (l i t : ℕ) → l < b → i < m - 1 → t < k + 2 → (p : Bool) → present map t ≡ p
          → byte m b u.stripe l i t ≡ cond (present map t) (byte m b s l i t) (byte m b after l i (half map t))
      go l i t hl hi ht true e = rw e (sym (same_column m b s u.stripe t (u.agrees.at t ht e) l i hl hi))
      go l i t hl hi ht false e =
          let under = below_under map t (k + 2) e ht in
          let all = absences_below k map in
          let counted = u.counted in
          let here = absent_nth (k + 2) map t ht e in
          rw e (by_cases (dec_lt 0 (absent_below t map))
          (λ c.
          let z : absent_below t map ≡ 1 = omega arith in
          let same : t ≡ second = nth_one (k + 2) 1 map t second (rw z at here) u.other in
          rw (z, same) (sym (rw (lt-ltb 1 n (omega arith)) at (u.bench.half1 l i hl hi))))
          (λ c.
          let z : absent_below t map ≡ 0 = omega arith in
          let same : t ≡ first = nth_one (k + 2) 0 map t first (rw z at here) u.lowest in
          rw (z, same) (sym (rw (lt-ltb 0 n (omega arith)) at (u.bench.half0 l i hl hi)))))

other_refusal : refuse Ambiguous ≡ refuse Contradicted → ⊥
other_refusal e = let n = ap number_of (refuse_one Ambiguous Contradicted e) in omega arith

-- a stripe that fits is the only one where at most two columns are absent
pub alone : (m k b : ℕ) → Shape m k b → (map : List Bool) (s v : List ℕ) → absences k map ≤ 2 → Fits m k b map s v → FitsAlone m k b map s v
unfolding AtMostOne
alone m k b h map s v few f = record { fits = f; only = λ w g. at_most_one m k b h map few s w v g.valid f.valid g.agrees f.agrees }

pub one_or_nothing : OneOrNothing
unfolding OneOrNothing NeverOne
one_or_nothing m k b map s before after r a p = go decided
  where
    decided : Gives (too_many_absent k map ∷ contradicted m k b map s ∷ []) (verdict_of r)
    decided =
        gives_rest (lent_rules m k b map (length s) (length before)) (too_many_absent k map ∷ contradicted m k b map s ∷ []) (verdict_of r)
        (lent_passed m k b (length s) map (length before) (record { shape = a.shape; stripe = a.stripe.whole; held = a.held; truth = a.truth; clear = a.clear })) p.told

    -- the verdict of a refusal that r is
    verdict : {f : Refusal} → r ≡ Err f → verdict_of r ≡ refuse f
    verdict e = ap verdict_of e

    go : Gives (too_many_absent k map ∷ contradicted m k b map s ∷ []) (verdict_of r) → GivesTheOne m k b map.places s before after r
    go (inl (many, e)) =
        let (v, w, vv, vw, av, aw, ne) = never_one m k b a.shape map.places many s a.stripe in
        let not_alone : (x : List ℕ) → FitsAlone m k b map.places s x → ⊥ = λ x o. ne (o.only v (record { valid = vv; agrees = av }) ∙ sym (o.only w (record { valid = vw; agrees = aw }))) in
        record {
          given = (λ q. absurd (passes_not Ambiguous (sym q ∙ e)), λ o. absurd (not_alone o.0 o.1));
          together = λ x o. absurd (not_alone x o);
          ambiguous = (λ _. record { one = v; other = w; first = record { valid = vv; agrees = av }; second = record { valid = vw; agrees = aw }; different = ne }, λ _. refused_by r e);
          contradicted = (λ q. absurd (other_refusal (sym e ∙ verdict q)), λ none. absurd (none v (record { valid = vv; agrees = av })));
          refused = λ f q. (inl (refuse_one f Ambiguous (sym (verdict q) ∙ e)), p.kept Ambiguous e);
        }
    go (inr (_, inl (none, e))) = record {
      given = (λ q. absurd (passes_not Contradicted (sym q ∙ e)), λ o. absurd (none o.0 o.1.fits.valid o.1.fits.agrees));
      together = λ x o. absurd (none x o.fits.valid o.fits.agrees);
      ambiguous = (λ q. absurd (other_refusal (sym (verdict q) ∙ e)), λ two. absurd (none two.one two.first.valid two.first.agrees));
      contradicted = (λ _ v f. none v f.valid f.agrees, λ _. refused_by r e);
      refused = λ f q. (inr (refuse_one f Contradicted (sym (verdict q) ∙ e)), p.kept Contradicted e);
    }
    go (inr (not_many, inr (_, e))) =
        let few : absences k map.places ≤ 2 = omega arith in
        let u = p.restored e in
        let fits : Fits m k b map.places s u.stripe = record { valid = u.valid; agrees = u.agrees } in
        let one : FitsAlone m k b map.places s u.stripe = alone m k b a.shape map.places s u.stripe few fits in
        record {
          given = (λ _. (u.stripe, one), λ _. e);
          together = λ v o. rw (one.only v o.fits) (together few u);
          ambiguous = (λ q. absurd (passes_not Ambiguous (sym e ∙ verdict q)), λ two. absurd (two.different (one.only two.one two.first ∙ sym (one.only two.other two.second))));
          contradicted = (λ q. absurd (passes_not Contradicted (sym e ∙ verdict q)), λ none. absurd (none u.stripe fits));
          refused = λ f q. absurd (passes_not f (sym e ∙ verdict q));
        }

-- where one fits alone, restore passes and gives it
pub gives_it : (m k b : ℕ) (map : Map) (s before after v : List ℕ) (r : Result Gaps Refusal) → Asked m k b map s before → Restores m k b map s before after r
    → FitsAlone m k b map.places s v → (verdict_of r ≡ pass) × Together m k b map.places s after v
unfolding OneOrNothing
gives_it m k b map s before after v r a p f = let g = one_or_nothing m k b map s before after r a p in (g.given.1 (v, f), g.together v f)

-- ---- what was encoded comes back

pub restore_gives_back : RestoreGivesBack
unfolding RestoreGivesBack AtMostOne
restore_gives_back m k b map fresh s lost before after r enc same agrees held truth clear few p =
    let (h, _) = stripe_given m k b (length fresh) enc.told in
    let size : length lost ≡ stripe_length m k b = same ∙ enc.written.0.stripe.whole in
    let back : Agrees m k b map.places lost s = agrees_back m k b map.places s lost agrees in
    let passed : verdict_of r ≡ pass = gives_one (restore_rules m k b map lost (length before)) _ _ p.told
    (gives_after (gap_rules m k b map (length lost) (length before)) (contradicted m k b map lost ∷ []) pass
    (gaps_passed m k b (length lost) map (length before) (record { shape = h; stripe = size; held = held; truth = truth; clear = clear }) few)
    (gives_next (λ c. c s enc.written.0 back) refl)) in
    let u = p.restored passed in
    let e : u.stripe ≡ s = at_most_one m k b h map.places few lost u.stripe s u.valid enc.written.0 u.agrees back in
    record { passed = passed; bench = rw e at u.bench }
