-- What check says of a stripe.
--   blank_checks  of a blank one
--   says_checks   an answer that tells the two counts of one that is not blank is the one that check promises
use mathlib.Core.Path.{◌≡◌, refl, sym, ap, ◌∙◌}
use mathlib.Core.Logic.{inl, inr}
use mathlib.Core.List.{List}
use Prim.Native.Nat.{ℕ}
use native.Mathlib.Omega.{arith}
use lib.ListN.{length}
use Rattle.parity.specs.Stripe.{broken_rows, broken_diagonals, Blank, SomeByte}
use Rattle.parity.proofs.Theorems.{lanes_counted, blank_holds, not_both_blank, blank_or_not}
use Rattle.counting.specs.declared.Counts.{Counts}
use Rattle.std.specs.Prelude.{Ok}
use Rattle.checking.specs.declared.checks.Checked.{Checked}
use Rattle.checking.specs.declared.checks.Checked.TheVariants as checked
use Rattle.refusals.specs.Refusals.{pass, Gives}
use Rattle.inputs.specs.Rules.{stripe_rules}
use Rattle.checking.specs.Checks.{Checks, CountsSay}

module _ (m k b : ℕ) (s : List ℕ) (passed : Gives (stripe_rules m k b (length s)) pass) where
  pub blank_checks : Blank m k b s → Checks m k b s (Ok checked.Blank)
  blank_checks z =
      let (rows, diagonals) = (lanes_counted m k b s).0 (blank_holds m k b s z) in
      record {
        told = passed;
        counted = λ _. record {
          rows = sym rows;
          diagonals = sym diagonals;
          intact = (λ e. absurd (let x : ◌≡◌ {A = ℕ} 0 1 = cc in omega arith), λ i. absurd (not_both_blank m k b s i.some z));
          blank = (λ _. z, λ _. refl);
        };
      }

  module _ (not_blank : Blank m k b s → ⊥) (c : Counts) (rows : c.rows ≡ broken_rows m k b s) (diagonals : c.diagonals ≡ broken_diagonals m k b s) where
    some : SomeByte m k b s
    some = elim (blank_or_not m k b s) [ inl z ↦ absurd (not_blank z) | inr w ↦ w ]

    pub says_checks : (r : Checked) → CountsSay c r → Checks m k b s (Ok r)
    says_checks r t = record {
      told = passed;
      counted = λ _. record {
        rows = t.rows ∙ rows;
        diagonals = t.diagonals ∙ diagonals;
        intact = (
          λ e. let same : r ≡ checked.Intact = cc in let (x, y) = t.intact.0 same in record { rows = sym rows ∙ x; diagonals = sym diagonals ∙ y; some = some },
          λ i. ap Ok (t.intact.1 (rows ∙ i.rows, diagonals ∙ i.diagonals)),
        );
        blank = (λ e. absurd (let same : r ≡ checked.Blank = cc in t.blank same), λ z. absurd (not_blank z));
      };
    }
