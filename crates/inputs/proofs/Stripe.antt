-- Laws of the rules of encode and check, which those of locate, rewrite, restore and show begin with: n is the length of a stripe.
--   stripe_passed   the shape is good and the stripe has its length: they pass
--   stripe_given    and where they pass, so it is
use mathlib.Core.Path.{◌≡◌, refl}
use mathlib.Core.List.{[], ◌∷◌}
use Prim.Native.Nat.{ℕ}
use Rattle.parity.specs.Shape.{Shape, stripe_length}
use Rattle.refusals.specs.Refusals.{pass, Gives}
use Rattle.inputs.specs.Rules.{stripe_length_differs, stripe_rules}
use Rattle.refusals.proofs.Rules.{gives_next, passed_first, equal_of}
use Rattle.inputs.proofs.ShapeLaws.{after_shape, passed_shape}

module _ (m k b n : ℕ) where
  pub stripe_passed : Shape m k b → n ≡ stripe_length m k b → Gives (stripe_rules m k b n) pass
  stripe_passed h e = after_shape m k b (stripe_length_differs m k b n ∷ []) pass h (gives_next (λ f. f e) refl)

  pub stripe_given : Gives (stripe_rules m k b n) pass → Shape m k b × (n ≡ stripe_length m k b)
  stripe_given g = let (shape, rest) = passed_shape m k b (stripe_length_differs m k b n ∷ []) g in (shape, equal_of _ _ (passed_first rest).0)
