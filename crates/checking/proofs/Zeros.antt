-- What `is_blank` tells of a stripe, whose bytes it looks at by their places.
--   zeros_tell       zeros are a blank stripe
--   no_zeros_tell    where they are not, the stripe is not blank
use mathlib.Core.Path.{◌≡◌, sym, ◌∙◌}
use mathlib.Core.Logic.{◌↔◌}
use mathlib.Core.Bool.{Bool, true, false, true≢false}
use mathlib.Core.List.{List}
use Prim.Native.Nat.{ℕ}
use lib.ListN.{length}
use Rattle.parity.specs.Shape.{Shape, stripe_length}
use Rattle.parity.specs.Stripe.{Blank}
use Rattle.parity.proofs.Bytes.{zeros_blank}
use Rattle.parity.proofs.Theorems.{blank_zeros}
use Rattle.cells.specs.Runs.{Zeros}
use Rattle.cells.proofs.Tells.{zeros_at}

module _ (m k b : ℕ) (s : List ℕ) (r : Bool) (tells : (r ≡ true) ↔ Zeros s) where
  pub zeros_tell : r ≡ true → Blank m k b s
  zeros_tell e = zeros_blank m k b s (zeros_at (tells.0 e))

  pub no_zeros_tell : Shape m k b → length s ≡ stripe_length m k b → r ≡ false → Blank m k b s → ⊥
  no_zeros_tell h whole e z = true≢false (sym (tells.1 (record { each = λ x _. blank_zeros m k b s h whole z x })) ∙ e)
