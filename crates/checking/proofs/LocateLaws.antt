-- Laws of locate: what a suspect says of valid stripes.
--   locate_passed     what locate passes is a stripe of a good shape
--   not_one           a valid stripe does not differ from a valid one in exactly one column
--   one_differs       the columns other than u fit, and the stripe is not valid: some valid stripe differs from it in exactly column u
--   none_near         no column's others fit: no valid stripe differs in at most one column
--   valid_passes      locate refuses no valid stripe
--   locate_refused    what locate says where it is refused
--   locate_blank      and of a blank stripe
--   locate_intact, locate_column, locate_nobody   and what it says of each suspect where the stripe is not blank
use mathlib.Core.Path.{◌≡◌, refl, sym, ap, ◌∙◌}
use mathlib.Core.Logic.{by_cases}
use mathlib.Core.Bool.{Bool, true, false, true≢false}
use mathlib.Core.List.{List, [], ◌∷◌}
use Prim.Native.Nat.{ℕ, ◌+◌, ◌≤◌, ◌<◌}
use native.Mathlib.Decide.{ℕ_discrete}
use native.Mathlib.Omega.{arith}
use lib.Dec.{eqb}
use lib.ListN.{length}
use borrow.Author.Tests.{eq-eqb, ne_eqb}
use Rattle.parity.specs.Shape.{Shape, stripe_length}
use Rattle.parity.specs.Stripe.{lane, Stripe, Valid, Blank}
use Rattle.parity.specs.Presence.{differs, differing, DifferIn}
use Rattle.parity.specs.Candidate.{FitsBut}
use Rattle.parity.specs.Theorems.{OneWrong}
use Rattle.parity.proofs.Cells.{holds_same}
use Rattle.parity.proofs.Columns.{same_column, column_same}
use Rattle.parity.proofs.Count.{one_pass, few_pass}
use Rattle.parity.proofs.Theorems.{near, one_wrong, few_differ, blank_holds}
use Rattle.parity.proofs.Fits.{rewritten, rewritten_other, fits_valid, valid_fits}
use Rattle.locating.specs.Locating.{Sound}
use Rattle.refusals.specs.declared.Refusal.{Refusal}
use Rattle.refusals.specs.declared.Refusal.TheVariants.{Unmendable}
use Rattle.refusals.specs.Refusals.{Verdict, pass, refuse, Gives}
use Rattle.inputs.specs.Rules.{unmendable, stripe_rules}
use Rattle.refusals.proofs.Rules.{passes_not, gives_first, gives_next, gives_after, gives_passed}
use Rattle.inputs.proofs.Stripe.{stripe_given, stripe_passed}
use Rattle.std.specs.Prelude.{Ok, Err}
use Rattle.checking.specs.declared.locates.Located.TheVariants as located
use Rattle.checking.specs.Locates.{locate_rules, OneDiffers, Locates}

pub locate_passed : (m k b : ℕ) (s : List ℕ) → Gives (locate_rules m k b s) pass → Shape m k b × (length s ≡ stripe_length m k b)
locate_passed m k b s g = stripe_given m k b (length s) (gives_passed (stripe_rules m k b (length s)) (unmendable m k b s ∷ []) g).0

pub not_one : (m k b : ℕ) → Shape m k b → (s x : List ℕ) (u : ℕ) → u < k + 2 → Valid m k b s → Valid m k b x → DifferIn m k b (eqb u) s x → ⊥
not_one m k b h s x u hu vs vx d =
    let e : s ≡ x = near m k b h s x vs vx (let l = few_differ m k b u s x d in omega arith) in
    true≢false (sym (eq-eqb u u refl) ∙ sym (d.at u hu) ∙ ap (λ q. differs m b s q u) (sym e) ∙ column_same m b s s u (λ l i hl hi. refl))

pub locate_refused : {m k b : ℕ} {s : List ℕ} {f : Refusal} → Gives (locate_rules m k b s) (refuse f) → Locates m k b s (Err f)
locate_refused {f = f} told = record { told = told; found = λ q. absurd (passes_not f (sym q)) }

module _ (m k b : ℕ) (h : Shape m k b) (s : List ℕ) where
  -- what fits with no column left out has no valid stripe near it
  none_near : ((x : ℕ) → x < k + 2 → FitsBut m k b x s → ⊥) → (v : List ℕ) → Valid m k b v → differing m k b s v ≤ 1 → ⊥
  unfolding differing
  none_near none v vv few =
      let (x, hx, rest) = one_pass (k + 2) (differs m b s v) (omega arith) few in
      none x hx (valid_fits m k b x s h.few v vv (λ l i t hl hi ht ne. same_column m b s v t (rest t ht ne) l i hl hi))

  module _ (st : Stripe m k b s) where
    rules : {v : Verdict} → Gives (unmendable m k b s ∷ []) v → Gives (locate_rules m k b s) v
    rules g = gives_after (stripe_rules m k b (length s)) (unmendable m k b s ∷ []) _ (stripe_passed m k b (length s) h st.whole) g

    pub locate_nobody : ((x : ℕ) → x < k + 2 → FitsBut m k b x s → ⊥) → Locates m k b s (Err Unmendable)
    locate_nobody none = locate_refused (rules (gives_first (none_near none)))

    module _ (sound : Sound m k b s) where
      valid : Valid m k b s
      valid = record { stripe = st; lanes = sound }

      pub valid_passes : Gives (locate_rules m k b s) pass
      unfolding differing
      valid_passes = rules (gives_next (λ c. c s valid (few_pass (k + 2) 0 (differs m b s s) (λ t ht ne. column_same m b s s t (λ l i hl hi. refl)))) refl)

      -- of a valid stripe no column is named
      none_named : (u : ℕ) → OneDiffers m k b s u → ⊥
      none_named u o = not_one m k b h s o.other u o.inside valid o.valid o.differ

      pub locate_intact : (Blank m k b s → ⊥) → Locates m k b s (Ok located.Intact)
      locate_intact n = record {
        told = valid_passes;
        found = λ _. record {
          intact = (λ _. (valid, n), λ _. refl);
          blank = (λ e. absurd (let z : ◌≡◌ {A = ℕ} 0 1 = cc in omega arith), λ z. absurd (n z));
          named = λ u. (λ e. absurd (let z : ◌≡◌ {A = ℕ} 0 1 = cc in omega arith), λ o. absurd (none_named u o));
        };
      }

    pub locate_blank : Blank m k b s → Locates m k b s (Ok located.Blank)
    locate_blank z =
        let sound = blank_holds m k b s z in
        record {
          told = valid_passes sound;
          found = λ _. record {
            intact = (λ e. absurd (let x : ◌≡◌ {A = ℕ} 0 1 = cc in omega arith), λ v. absurd (v.1 z));
            blank = (λ _. z, λ _. refl);
            named = λ u. (λ e. absurd (let x : ◌≡◌ {A = ℕ} 0 1 = cc in omega arith), λ o. absurd (none_named sound u o));
          };
        }

    module _ (u : ℕ) (broken : Sound m k b s → ⊥) (inside : u < k + 2) (fits : FitsBut m k b u s) where
      after : List ℕ
      after = rewritten m k b u s

      -- if column u had not differed, no lane would have broken
      not_same : differs m b s after u ≡ false → ⊥
      unfolding after
      not_same e = broken (λ l hl. holds_same m k (lane m b after l) (lane m b s l) (λ i t hi ht.
          by_cases (ℕ_discrete t u)
          (λ q. sym (same_column m b s after t (ap (differs m b s after) q ∙ e) l i hl hi))
          (λ q. sym (rewritten_other m k b u s l i t hl hi ht q))) ((fits_valid m k b u s st fits).lanes l hl))

      one_differs : OneDiffers m k b s u
      unfolding after
      one_differs = record {
        inside = inside;
        other = after;
        valid = fits_valid m k b u s st fits;
        differ = record {
          at = λ t ht. by_cases (ℕ_discrete t u)
              (λ q. ap (differs m b s after) q ∙ so (differs m b s after u) refl ∙ sym (eq-eqb u t (sym q)))
              (λ q. column_same m b s after t (λ l i hl hi. rewritten_other m k b u s l i t hl hi ht q) ∙ sym (ne_eqb u t (λ d. q (sym d))));
        };
      }
        where
          so : (d : Bool) → differs m b s after u ≡ d → d ≡ true
          so true e = refl
          so false e = absurd (not_same e)

      pub locate_column : Locates m k b s (Ok (located.Column u))
      unfolding OneWrong
      locate_column =
          let o = one_differs in
          record {
            told = rules (gives_next (λ c. c o.other o.valid (few_differ m k b u s o.other o.differ)) refl);
            found = λ _. record {
              intact = (λ e. absurd (let z : ◌≡◌ {A = ℕ} 0 1 = cc in omega arith), λ v. absurd (broken v.0.lanes));
              blank = (λ e. absurd (let z : ◌≡◌ {A = ℕ} 0 1 = cc in omega arith), λ z. absurd (broken (blank_holds m k b s z)));
              named = λ w. (
                λ e. let q : u ≡ w = cc in rw q at o,
                λ p.
                    ap (λ v. Ok (located.Column v)) (one_wrong m k b h s o.other p.other u w inside p.inside o.valid p.valid o.differ p.differ).0,
              );
            };
          }
