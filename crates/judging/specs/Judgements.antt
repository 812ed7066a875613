-- What is judged of an image.
--   Formed image shape map      the image is well formed, with that shape and map
--   longest                     the most bytes that an image may have: a longer one is refused with 10
--   outcome_verdict, verdict_of    the verdict of an outcome, and of what is judged of a well-formed image
--   part_rules                   the refusal of an image whose parts have their lengths: 5
--   stripe_too_short, bench_too_short    2 and 3: the lent buffers are too short
--   formed_rules                 the refusals of a well-formed image, in order: 4, 2, 3, 5
--   Complete                    the bench holds the absent columns of a valid stripe that agrees with the present ones
--   Benches                     the bench after the judgement; where every column is there, whether that valid stripe is blank decides the outcome
--   JudgesParts                 what is judged in a stripe and a bench of exactly the lengths that the shape asks for
--   JudgesFormed                what is judged of a well-formed image: the parts that are written begin the lent buffers, and the rest of them stays
--   outcome_of                   what a judgement says came of the image; where there is none, its refusal
--   Names                       there is a judgement, with that shape and that map, whatever came of the image
--   JudgesImage                 what is judged of an image: 10 first, then what its contents say, then the judgement of a well-formed one
use Rattle.std.specs.Prelude.{◌≡◌, ◌⊎◌, List, [], ◌∷◌, ℕ, ◌≤◌, ◌<◌, length, take, drop, Result, Ok, Err, IsOkAnd}
use Rattle.parity.specs.Shape.{stripe_length, bench_length}
use Rattle.parity.specs.Stripe.{Blank}
use Rattle.maps.specs.declared.Map.{Map}
use Rattle.refusals.specs.declared.Refusal.{Refusal}
use Rattle.refusals.specs.declared.Refusal.TheVariants as refusal
use Rattle.refusals.specs.Refusals.{Verdict, pass, refuse, Rule, Gives}
use Rattle.inputs.specs.Rules.{too_many_absent, contradicted}
use Rattle.evenodd.specs.Restores.{RestoredFrom}
use Rattle.inputs.specs.declared.shapes.Shape.{Shape}
use Rattle.image.specs.declared.answers.Contents.{Contents}
use Rattle.image.specs.Reads.{contents_rules, ContentsOf, Filled}
use Rattle.judging.specs.declared.Outcome.{Outcome}
use Rattle.judging.specs.declared.Outcome.TheVariants as outcome
use Rattle.judging.specs.declared.Judgement.{Judgement}

abbrev pub longest : ℕ
longest = 16384

-- the contents say that shape and that map
abbrev pub Formed : List ℕ → Shape → Map → Type 0
Formed image shape map = ContentsOf image (Ok (record { shape = shape; map = map }))

abbrev pub outcome_verdict : Outcome → Verdict
outcome_verdict outcome.Complete = pass
outcome_verdict outcome.Blank = pass
outcome_verdict outcome.Ambiguous = refuse refusal.Ambiguous
outcome_verdict outcome.Contradicted = refuse refusal.Contradicted

abbrev pub verdict_of : Result Outcome Refusal → Verdict
verdict_of (Ok o) = outcome_verdict o
verdict_of (Err f) = refuse f

abbrev pub part_rules : Shape → Map → List ℕ → List Rule
part_rules shape map s = contradicted shape.m shape.k shape.b map s ∷ []

pub record Complete (shape : Shape) (map : Map) (s before after : List ℕ) : Type 0 where
  pub count : ℕ
  pub first : ℕ
  pub second : ℕ
  pub restored : RestoredFrom shape.m shape.k shape.b map.places s before after count first second

-- the bench after the judgement of a stripe s that has been read. With at most two columns absent one valid stripe alone agrees, so there is one to be blank or not
abbrev pub Benches : Shape → Map → List ℕ → List ℕ → List ℕ → Outcome → Type 0
Benches shape map s before after outcome.Complete = (c : Complete shape map s before after) × (Blank shape.m shape.k shape.b c.restored.stripe → ⊥)
Benches shape map s before after outcome.Blank = (c : Complete shape map s before after) × Blank shape.m shape.k shape.b c.restored.stripe
Benches shape map s before after outcome.Contradicted = after ≡ before
Benches shape map s before after outcome.Ambiguous = ⊥

pub record JudgesParts (shape : Shape) (map : Map) (image s filled before after : List ℕ) (r : Outcome) : Type 0 where
  pub read : Filled shape.m shape.k shape.b map.places image s filled
  pub told : Gives (part_rules shape map filled) (outcome_verdict r)
  pub benches : Benches shape map filled before after r

abbrev pub stripe_of : Shape → ℕ
stripe_of shape = stripe_length shape.m shape.k shape.b

abbrev pub bench_of : Shape → ℕ
bench_of shape = bench_length shape.m shape.b

abbrev pub stripe_too_short : Shape → ℕ → Rule
stripe_too_short shape n = record { condition = n < stripe_of shape; refusal = refusal.StripeLength }

abbrev pub bench_too_short : Shape → ℕ → Rule
bench_too_short shape n = record { condition = n < bench_of shape; refusal = refusal.BenchLength }

abbrev pub formed_rules : Shape → Map → List ℕ → List ℕ → List ℕ → List Rule
formed_rules shape map s bench filled = too_many_absent shape.k map ∷ stripe_too_short shape (length s) ∷ bench_too_short shape (length bench) ∷ part_rules shape map filled

pub record InParts (shape : Shape) (map : Map) (image s after bench benched : List ℕ) (r : Outcome) : Type 0 where
  pub parts : JudgesParts shape map image (take (stripe_of shape) s) (take (stripe_of shape) after) (take (bench_of shape) bench) (take (bench_of shape) benched) r
  pub rest : drop (stripe_of shape) after ≡ drop (stripe_of shape) s
  pub spare : drop (bench_of shape) benched ≡ drop (bench_of shape) bench

pub record Unwritten (s after bench benched : List ℕ) : Type 0 where
  pub whole : after ≡ s
  pub spare : benched ≡ bench

abbrev pub Leaves : Shape → Map → List ℕ → List ℕ → List ℕ → List ℕ → List ℕ → Result Outcome Refusal → Type 0
Leaves shape map image s after bench benched (Ok outcome.Complete) = InParts shape map image s after bench benched outcome.Complete
Leaves shape map image s after bench benched (Ok outcome.Blank) = InParts shape map image s after bench benched outcome.Blank
Leaves shape map image s after bench benched (Ok outcome.Contradicted) = InParts shape map image s after bench benched outcome.Contradicted
Leaves shape map image s after bench benched (Ok outcome.Ambiguous) = Unwritten s after bench benched
Leaves shape map image s after bench benched (Err f) = ((f ≡ refusal.StripeLength) ⊎ (f ≡ refusal.BenchLength)) × Unwritten s after bench benched

pub record JudgesFormed (shape : Shape) (map : Map) (image s after bench benched : List ℕ) (r : Result Outcome Refusal) : Type 0 where
  pub told : Gives (formed_rules shape map s bench (take (stripe_of shape) after)) (verdict_of r)
  pub leaves : Leaves shape map image s after bench benched r

-- the image is refused without a shape
pub record Rejected (f : Refusal) (s after bench benched : List ℕ) (r : Result Judgement Refusal) : Type 0 where
  pub outcome : r ≡ Err f
  pub unwritten : Unwritten s after bench benched

abbrev pub outcome_of : Result Judgement Refusal → Result Outcome Refusal
outcome_of (Ok j) = j.outcome
outcome_of (Err f) = Err f

abbrev pub Names : Shape → Map → Result Judgement Refusal → Type 0
Names shape map r = IsOkAnd r (λ j. (j.shape ≡ shape) × (j.map ≡ map))

pub record JudgesImage (image s after bench benched : List ℕ) (r : Result Judgement Refusal) : Type 0 where
  pub contents : length image ≤ longest → (c : Result Contents Refusal) × ContentsOf image c
  pub long : longest < length image → Rejected refusal.TooLong s after bench benched r
  pub bad : length image ≤ longest → (f : Refusal) → Gives (contents_rules image) (refuse f) → Rejected f s after bench benched r
  pub formed : length image ≤ longest → (shape : Shape) (map : Map) → Formed image shape map
      → Names shape map r × JudgesFormed shape map image s after bench benched (outcome_of r)
