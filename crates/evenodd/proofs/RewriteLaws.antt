-- Laws of rewrite: which stripe is left.
--   same_but          columns that agree have the same bytes
--   agrees_self, agrees_back   a stripe agrees with itself, and one with another as that with it
--   between           two stripes that agree with others, which agree, in every column but u, agree so
--   one_but           two valid stripes that agree in every column but u are one
--   rewrite_refused   what rewrite says where it is refused
--   rewrite_told      the tests of the numbers and the stripe's length passed: what is asked of the column decides
--   rewrite_none      the other columns do not fit: no valid stripe agrees
--   rewrite_done      they do, and the stripe has become the one that agrees
use mathlib.Core.Path.{◌≡◌, refl, sym, ◌∙◌}
use mathlib.Core.List.{List}
use Prim.Native.Nat.{ℕ, ◌+◌, ◌<◌}
use native.Mathlib.Omega.{arith}
use lib.ListN.{length}
use Rattle.parity.specs.Shape.{Shape, stripe_length}
use Rattle.parity.specs.Stripe.{Stripe, Valid}
use Rattle.parity.specs.Presence.{differs, differing, AgreesBut}
use Rattle.parity.specs.Candidate.{FitsBut}
use Rattle.parity.proofs.Columns.{same_column, column_same}
use Rattle.parity.proofs.Count.{few_pass}
use Rattle.parity.proofs.Theorems.{near}
use Rattle.parity.proofs.Fits.{rewritten, rewritten_other, fits_valid, valid_fits}
use Rattle.restoring.specs.Restoring.{SameBut}
use Rattle.refusals.specs.declared.Refusal.{Refusal}
use Rattle.refusals.specs.declared.Refusal.TheVariants.{Contradicted}
use Rattle.refusals.specs.Refusals.{Verdict, refuse, Gives}
use Rattle.inputs.specs.Rules.{stripe_rules}
use Rattle.refusals.proofs.Rules.{gives_first, gives_next, gives_after}
use Rattle.inputs.proofs.Stripe.{stripe_passed}
use Rattle.std.specs.Prelude.{Ok, Err}
use Rattle.evenodd.specs.Rewrites.{column_rules, rewrite_rules, Rewrites}

module _ (m k b u : ℕ) where
  same_but : (s v : List ℕ) → AgreesBut m k b u s v → SameBut m k b u s v
  same_but s v a l i t hl hi ht ne = same_column m b s v t (a.at t ht ne) l i hl hi

  pub between : (s other x y : List ℕ) → AgreesBut m k b u s other → AgreesBut m k b u s x → AgreesBut m k b u other y → AgreesBut m k b u x y
  between s other x y a p q = record {
    at = λ t ht ne. column_same m b x y t (λ l i hl hi.
        sym (same_but s x p l i t hl hi ht ne) ∙ same_but s other a l i t hl hi ht ne ∙ same_but other y q l i t hl hi ht ne);
  }

  pub agrees_self : (s : List ℕ) → AgreesBut m k b u s s
  agrees_self s = record { at = λ t ht ne. column_same m b s s t (λ l i hl hi. refl) }

  pub agrees_back : (s other : List ℕ) → AgreesBut m k b u s other → AgreesBut m k b u other s
  agrees_back s other a = between s s other s (agrees_self s) a (agrees_self s)

  pub one_but : Shape m k b → (x y : List ℕ) → Valid m k b x → Valid m k b y → AgreesBut m k b u x y → x ≡ y
  unfolding differing
  one_but h x y vx vy a = near m k b h x y vx vy (let few = few_pass (k + 2) u (differs m b x y) a.at in omega arith)

  rewrite_refused : {s : List ℕ} {f : Refusal} → Gives (rewrite_rules m k b u s) (refuse f) → Rewrites m k b u s s (Err f)
  rewrite_refused told = record { told = told; left = refl }

  pub rewrite_told : Shape m k b → (s : List ℕ) → length s ≡ stripe_length m k b → {v : Verdict} → Gives (column_rules m k b u s) v → Gives (rewrite_rules m k b u s) v
  rewrite_told h s whole g = gives_after (stripe_rules m k b (length s)) (column_rules m k b u s) _ (stripe_passed m k b (length s) h whole) g

  module _ (h : Shape m k b) (s : List ℕ) (st : Stripe m k b s) where
    module _ (inside : u < k + 2) where
      pub rewrite_none : (FitsBut m k b u s → ⊥) → Rewrites m k b u s s (Err Contradicted)
      rewrite_none none = rewrite_refused (rewrite_told h s st.whole (gives_next (λ out. omega arith) (gives_first (λ v vv a. none (valid_fits m k b u s h.few v vv (same_but s v a))))))

      pub rewrite_done : FitsBut m k b u s → (after : List ℕ) → ((r : List ℕ) → Valid m k b r → SameBut m k b u s r → after ≡ r) → Rewrites m k b u s after (Ok tt)
      rewrite_done fits after becomes =
          let valid = fits_valid m k b u s st fits in
          let agrees : AgreesBut m k b u s (rewritten m k b u s)
          = record { at = λ t ht ne. column_same m b s (rewritten m k b u s) t (λ l i hl hi. rewritten_other m k b u s l i t hl hi ht ne) } in
          let e : after ≡ rewritten m k b u s = becomes (rewritten m k b u s) valid (rewritten_other m k b u s) in
          record {
            told = rewrite_told h s st.whole (gives_next (λ out. omega arith) (gives_next (λ none. none (rewritten m k b u s) valid agrees) refl));
            left = rw e (valid, agrees);
          }
