-- `inputs::shapes::judge` meets its contract: the tests of m, of k and of b, one after another, are the shape's rules.
use mathlib.Core.Path.{sym, ◌∙◌}
use mathlib.Core.Logic.{inl, inr}
use mathlib.Core.Bool.{true≢false}
use Prim.Native.Nat.{◌≤◌}
use native.Mathlib.Omega.{arith}
use Rattle.parity.specs.Shape.{OddPrime, Shape, column_length}
use Rattle.parity.proofs.Shapes.{accepted_prime, prime_accepted}
use Rattle.inputs.proofs.ShapeLaws.{column_most, judges_m, judges_k, judges_b, judges_good}
use Rattle.inputs.proofs.shapes.judge.Goals as goal

pub returns-then-not-is_accepted : goal.returns-then-not-is_accepted
returns-then-not-is_accepted c = judges_m _ _ _ (λ p. true≢false (sym (c.is_accepted.ensures ∙ prime_accepted _ p) ∙ c.if-not-is_accepted.true))

pub returns-then-k-eq0 : goal.returns-then-k-eq0
returns-then-k-eq0 c =
    -- past the first test m is right
    let prime : OddPrime c.args.shape.m = accepted_prime _ (sym c.is_accepted.ensures ∙ c.if-not-is_accepted.false) in
    judges_k _ _ _ prime (elim c.then-k-eq0.either [ inl t ↦ inl t | inr t ↦ inr t.1 ])

pub returns-then-b-eq0 : goal.returns-then-b-eq0
returns-then-b-eq0 c =
    -- past the first test m is right
    let prime : OddPrime c.args.shape.m = accepted_prime _ (sym c.is_accepted.ensures ∙ c.if-not-is_accepted.false) in
    -- past the second so is k
    let columns : (1 ≤ c.args.shape.k) × (c.args.shape.k ≤ c.args.shape.m) = (omega (arith, c.if-k-eq0.false), c.if-m-k.false) in
    let (real, few) = columns in
    judges_b _ _ _ prime real few (elim c.then-b-eq0.either [ inl t ↦ inl t | inr t ↦ inr t.1 ])

pub overflow_sub-result : goal.overflow_sub-result
overflow_sub-result c =
    -- past the first test m is right
    let prime : OddPrime c.args.shape.m = accepted_prime _ (sym c.is_accepted.ensures ∙ c.if-not-is_accepted.false) in
    -- past the second so is k
    let columns : (1 ≤ c.args.shape.k) × (c.args.shape.k ≤ c.args.shape.m) = (omega (arith, c.if-k-eq0.false), c.if-m-k.false) in
    -- and past the third the numbers are a shape
    let good : Shape c.args.shape.m c.args.shape.k c.args.shape.b = let (real, few) = columns in
    record {
      value = prime;
      real = real;
      few = few;
      filled = omega (arith, c.if-b-eq0.false);
      short = c.if-b-gt4096.false;
    } in
    omega (arith, good.value.prime.big)

pub overflow_mul-result : goal.overflow_mul-result
unfolding column_length
overflow_mul-result c =
    -- past the first test m is right
    let prime : OddPrime c.args.shape.m = accepted_prime _ (sym c.is_accepted.ensures ∙ c.if-not-is_accepted.false) in
    -- past the second so is k
    let columns : (1 ≤ c.args.shape.k) × (c.args.shape.k ≤ c.args.shape.m) = (omega (arith, c.if-k-eq0.false), c.if-m-k.false) in
    -- and past the third the numbers are a shape
    let good : Shape c.args.shape.m c.args.shape.k c.args.shape.b = let (real, few) = columns in
    record {
      value = prime;
      real = real;
      few = few;
      filled = omega (arith, c.if-b-eq0.false);
      short = c.if-b-gt4096.false;
    } in
    omega (arith, column_most good)

pub returns : goal.returns
unfolding column_length
returns c =
    -- past the first test m is right
    let prime : OddPrime c.args.shape.m = accepted_prime _ (sym c.is_accepted.ensures ∙ c.if-not-is_accepted.false) in
    -- past the second so is k
    let columns : (1 ≤ c.args.shape.k) × (c.args.shape.k ≤ c.args.shape.m) = (omega (arith, c.if-k-eq0.false), c.if-m-k.false) in
    -- and past the third the numbers are a shape
    let good : Shape c.args.shape.m c.args.shape.k c.args.shape.b = let (real, few) = columns in
    record {
      value = prime;
      real = real;
      few = few;
      filled = omega (arith, c.if-b-eq0.false);
      short = c.if-b-gt4096.false;
    } in
    judges_good _ _ _ good
