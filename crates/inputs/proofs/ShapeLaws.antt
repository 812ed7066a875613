-- What the shape check decides, and the numbers of a good shape.
--   column_most, places_most, parts_most    a column is at most 516,096 bytes, there are at most 129, and together 66,576,384 bytes
--   shape_passes, passes_shape    the shape's rules let exactly the shapes pass
--   judges-..              what the shape check says of three numbers
--   judged_good            where it says that the shape is good
--   after_shape            a list of rules that begins with the shape's: of a shape, the others give the verdict
--   passed_shape           where it passes, the three numbers are a shape, and the others pass
use mathlib.Core.Path.{◌≡◌, refl}
use mathlib.Core.Logic.{◌≢◌, ◌⊎◌, inl, inr}
use mathlib.Core.List.{List, ◌++◌}
use Prim.Native.Nat.{ℕ, ◌≤◌, ◌<◌}
use native.Mathlib.Omega.{arith}
use Rattle.parity.specs.Shape.{OddPrime, Shape, column_length}
use Rattle.parity.proofs.Shapes.{odd_prime_of}
pub use Rattle.parity.proofs.Shapes.{column_most, places_most, parts_most}
use Rattle.std.specs.Prelude.{Ok, Err}
use Rattle.refusals.specs.declared.Refusal.TheVariants as refusal
use Rattle.refusals.specs.Refusals.{Verdict, pass, Rule, Gives}
use Rattle.inputs.specs.Rules.{shape_rules}
use Rattle.inputs.specs.Shapes.{Judges}
use Rattle.refusals.proofs.Rules.{gives_first, gives_next, passed_first, gives_after, gives_passed}

-- a number from 1 to the most is neither 0 nor above it, and the other way round
within : (n most : ℕ) → 1 ≤ n → n ≤ most → (n ≡ 0) ⊎ (most < n) → ⊥
within n most l h (inl e) = omega arith
within n most l h (inr g) = omega arith

bounds : (n most : ℕ) → ((n ≡ 0) ⊎ (most < n) → ⊥) → (1 ≤ n) × (n ≤ most)
bounds n most h = let nonzero : n ≢ 0 = λ e. h (inl e) in let below : most < n → ⊥ = λ l. h (inr l) in (omega arith, omega arith)

module _ (m k b : ℕ) where
  pub judges_m : (OddPrime m → ⊥) → Judges m k b (Err refusal.WrongM)
  judges_m n = record { told = gives_first n; column = tt }

  -- the shape's rules let exactly the shapes pass
  pub shape_passes : Shape m k b → Gives (shape_rules m k b) pass
  shape_passes s =
      gives_next (λ n. n s.value) (gives_next (within k m s.real s.few) (gives_next (within b 4096 s.filled s.short) refl))

  pub passes_shape : Gives (shape_rules m k b) pass → Shape m k b
  passes_shape g =
      let (prime, second) = passed_first g in
      let (columns, third) = passed_first second in
      let (real, few) = bounds k m columns in
      let (filled, short) = bounds b 4096 (passed_first third).0 in
      record { value = odd_prime_of m prime; real = real; few = few; filled = filled; short = short }

  module _ (prime : OddPrime m) where
    pub judges_k : (k ≡ 0) ⊎ (m < k) → Judges m k b (Err refusal.WrongK)
    judges_k w = record { told = gives_next (λ n. n prime) (gives_first w); column = tt }

    pub judges_b : 1 ≤ k → k ≤ m → (b ≡ 0) ⊎ (4096 < b) → Judges m k b (Err refusal.WrongB)
    judges_b real few w = record { told = gives_next (λ n. n prime) (gives_next (within k m real few) (gives_first w)); column = tt }

  pub judges_good : Shape m k b → Judges m k b (Ok (column_length m b))
  judges_good s = record { told = shape_passes s; column = refl }

  pub judged_good : {c : ℕ} → Judges m k b (Ok c) → Shape m k b × (c ≡ column_length m b)
  judged_good h = (passes_shape h.told, h.column)

  module _ (rules : List Rule) where
    pub after_shape : (v : Verdict) → Shape m k b → Gives rules v → Gives (shape_rules m k b ++ rules) v
    after_shape v s = gives_after (shape_rules m k b) rules v (shape_passes s)

    pub passed_shape : Gives (shape_rules m k b ++ rules) pass → Shape m k b × Gives rules pass
    passed_shape g = let (first, second) = gives_passed (shape_rules m k b) rules g in (passes_shape first, second)
