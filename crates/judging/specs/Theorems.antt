-- What follows from the promise of the judgement. Each statement is a type, which proofs/Theorems inhabits.
--   JudgesImageOne   two judgements that meet the promise are equal, and so are the stripe and the bench after them
--   BlankTold        of a well-formed image with at most two columns absent, where enough is lent: it is judged blank exactly when every byte of the
--                    present columns is zero
--   Enough           a stripe of 49,056 bytes and a bench of 32,704 are enough for every image: the refusals 2 and 3 are never given
use Rattle.std.specs.Prelude.{◌≡◌, ◌≢◌, ◌↔◌, Bool, true, List, ℕ, ◌+◌, ◌-◌, ◌≤◌, ◌<◌, length, take, Result, Ok, Err}
use Rattle.parity.specs.Stripe.{byte}
use Rattle.parity.specs.Presence.{present, absences}
use Rattle.maps.specs.declared.Map.{Map}
use Rattle.refusals.specs.declared.Refusal.{Refusal}
use Rattle.refusals.specs.declared.Refusal.TheVariants.{StripeLength, BenchLength}
use Rattle.inputs.specs.declared.shapes.Shape.{Shape}
use Rattle.judging.specs.declared.Outcome.TheVariants as outcome
use Rattle.judging.specs.declared.Judgement.{Judgement}
use Rattle.judging.specs.Judgements.{longest, Formed, stripe_of, bench_of, outcome_of, JudgesImage}

unfoldable pub JudgesImageOne : Type 0
JudgesImageOne = (image s bench after after' benched benched' : List ℕ) (r r' : Result Judgement Refusal)
    → JudgesImage image s after bench benched r → JudgesImage image s after' bench benched' r'
    → (r ≡ r') × (after ≡ after') × (benched ≡ benched')

-- every byte of the present columns of s is zero
abbrev pub PresentZeros : ℕ → ℕ → ℕ → List Bool → List ℕ → Type 0
PresentZeros m k b map s = (l i t : ℕ) → l < b → i < m - 1 → t < k + 2 → present map t ≡ true → byte m b s l i t ≡ 0

unfoldable pub BlankTold : Type 0
BlankTold = (image s after bench benched : List ℕ) (r : Result Judgement Refusal) (shape : Shape) (map : Map) → JudgesImage image s after bench benched r
    → length image ≤ longest → Formed image shape map → absences shape.k map.places ≤ 2 → stripe_of shape ≤ length s → bench_of shape ≤ length bench
    → (r ≡ Ok (record { shape = shape; map = map; outcome = Ok outcome.Blank })) ↔ PresentZeros shape.m shape.k shape.b map.places (take (stripe_of shape) after)

unfoldable pub Enough : Type 0
Enough = (image s after bench benched : List ℕ) (r : Result Judgement Refusal) → 49056 ≤ length s → 32704 ≤ length bench → JudgesImage image s after bench benched r
    → (outcome_of r ≢ Err StripeLength) × (outcome_of r ≢ Err BenchLength)
