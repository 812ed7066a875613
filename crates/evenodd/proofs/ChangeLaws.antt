-- Laws of change.
--   change_told      the tests of the numbers and the stripe's length passed: what is asked of the cell decides
--   Fitting, change_given   what its rules ask: where they pass, all of it is so
--   change_passed    and where all of it is so, they pass
use mathlib.Core.Path.{◌≡◌, refl}
use mathlib.Core.List.{List}
use Prim.Native.Nat.{ℕ, ◌-◌, ◌<◌}
use native.Mathlib.Omega.{arith}
use lib.ListN.{length}
use Rattle.parity.specs.Shape.{Shape, stripe_length}
use Rattle.refusals.specs.Refusals.{Verdict, pass, Gives}
use Rattle.refusals.proofs.Rules.{gives_next, gives_after, gives_passed, passed_first, equal_of}
use Rattle.inputs.specs.Rules.{stripe_rules}
use Rattle.inputs.proofs.Stripe.{stripe_passed, stripe_given}
use Rattle.evenodd.specs.Changes.{cell_rules, change_rules}

pub record Fitting (m k b column row : ℕ) (cell s : List ℕ) : Type 0 where
  pub shape : Shape m k b
  pub whole : length s ≡ stripe_length m k b
  pub datum : column < k
  pub real : row < m - 1
  pub full : length cell ≡ b

module _ (m k b column row : ℕ) (cell s : List ℕ) where
  pub change_told : Shape m k b → length s ≡ stripe_length m k b → {v : Verdict} → Gives (cell_rules m k b column row (length cell)) v → Gives (change_rules m k b column row cell s) v
  change_told h whole g = gives_after (stripe_rules m k b (length s)) (cell_rules m k b column row (length cell)) _ (stripe_passed m k b (length s) h whole) g

  pub change_given : Gives (change_rules m k b column row cell s) pass → Fitting m k b column row cell s
  change_given g =
      let (asked, rest) = gives_passed (stripe_rules m k b (length s)) (cell_rules m k b column row (length cell)) g in
      let (shape, whole) = stripe_given m k b (length s) asked in
      let (column_in, after) = passed_first rest in
      let (row_in, last) = passed_first after in
      record { shape = shape; whole = whole; datum = omega (arith, column_in); real = omega (arith, row_in); full = equal_of _ _ (passed_first last).0 }

  pub change_passed : Fitting m k b column row cell s → Gives (change_rules m k b column row cell s) pass
  change_passed fits = change_told fits.shape fits.whole
      (gives_next (λ out. omega (arith, fits.datum, out)) (gives_next (λ out. omega (arith, fits.real, out)) (gives_next (λ out. out fits.full) refl)))
