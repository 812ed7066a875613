-- The table `accepted` holds every odd prime up to 127 and nothing else, by one test that is computed: each number of the table
-- passes `odd_prime`, and no number below 128 passes it that the table lacks.
use mathlib.Core.Path.{◌≡◌, refl}
use mathlib.Core.Logic.{by_cases}
use mathlib.Core.Bool.{Bool, true, false, not, ◌&&◌, true≢false, false≢true}
use mathlib.Core.List.{List, [], ◌∷◌}
use Prim.Native.Nat.{ℕ, ◌%◌}
use native.Mathlib.Decide.{ℕ_discrete}
use native.Mathlib.Omega.{arith}
use lib.Dec.{ltb, leb, eqb}
use borrow.Author.Tests.{ltb-true, leb-true, eqb-true, not-true, not-false, lt-ltb, le-leb, eq-eqb, ne_eqb}
use Rattle.parity.specs.Sum.{some}
use Rattle.parity.specs.Shape.{OddPrime, accepted, member}
use Rattle.parity.specs.Theorems.{Table}
use Rattle.parity.proofs.Count.{some_false, false_some}

-- d is more than 1 and divides n
abbrev divides : ℕ → ℕ → Bool
divides n d = ltb 1 d && eqb (n % d) 0

-- the test: more than 1, odd, at most 127, and divided by no number between 1 and itself
odd_prime : ℕ → Bool
odd_prime n = ltb 1 n && (eqb (n % 2) 1 && (leb n 127 && not (some n (divides n))))

-- every number of the list passes the test
abbrev every : (ℕ → Bool) → List ℕ → Bool
every p [] = true
every p (x ∷ xs) = p x && every p xs

missed : ℕ → Bool
missed n = odd_prime n && not (member n accepted)

both : (a b : Bool) → (a && b) ≡ true → (a ≡ true) × (b ≡ true)
both true b e = (refl, e)
both false b e = absurd (false≢true e)

computed : (every odd_prime accepted && not (some 128 missed)) ≡ true
unfolding some odd_prime missed
computed = refl

nothing_else : every odd_prime accepted ≡ true
nothing_else = (both (every odd_prime accepted) _ computed).0

none_missed : some 128 missed ≡ false
none_missed = not-true _ (both (every odd_prime accepted) _ computed).1

apart : (a b : Bool) → (a ≡ true → b ≡ false) → (a && b) ≡ false
apart true b h = h refl
apart false b h = refl

-- so each number that stands in it does
passes : (n : ℕ) (p : ℕ → Bool) (xs : List ℕ) → every p xs ≡ true → member n xs ≡ true → p n ≡ true
passes n p [] e h = absurd (false≢true h)
passes n p (x ∷ xs) e h =
    let each = both (p x) (every p xs) e in
    by_cases (ℕ_discrete x n) (λ q. rw q at each.0) (λ f. passes n p xs each.1 (rw (ne_eqb x n f) at h))

-- what passes the test is an odd prime up to 127, and the other way round
from_test : (n : ℕ) → odd_prime n ≡ true → OddPrime n
unfolding odd_prime
from_test n e =
    let more = both (ltb 1 n) _ e in
    let odd = both (eqb (n % 2) 1) _ more.1 in
    let most = both (leb n 127) _ odd.1 in
    record {
      prime = record {
        big = ltb-true 1 n more.0;
        undivided = λ d l k z. true≢false (rw (lt-ltb 1 d l, eq-eqb (n % d) 0 z) at (some_false n (divides n) (not-true _ most.1) d k));
      };
      odd = eqb-true (n % 2) 1 odd.0;
      most = leb-true n 127 most.0;
    }

to_test : (n : ℕ) → OddPrime n → odd_prime n ≡ true
unfolding odd_prime
to_test n o =
    rw (
      lt-ltb 1 n o.prime.big,
      eq-eqb (n % 2) 1 o.odd,
      le-leb n 127 o.most,
      false_some n (divides n) (λ d k. apart (ltb 1 d) (eqb (n % d) 0) (λ l. ne_eqb (n % d) 0 (o.prime.undivided d (ltb-true 1 d l) k))),
    )

pub table : Table
unfolding Table missed
table n = (
  λ e. from_test n (passes n odd_prime accepted nothing_else e),
  λ o. not-false (member n accepted) (rw (to_test n o) at (some_false 128 missed none_missed n (omega (arith, o.most)))),
)
