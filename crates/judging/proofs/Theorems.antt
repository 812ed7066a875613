-- The proofs of the statements in specs/Theorems. What is read and restored is determined, and a list of rules gives one verdict: so one judgement
-- meets the promise. Of an image that is short and lacks at most two columns the shape is small: so enough is lent.
use mathlib.Core.Path.{◌≡◌, refl, sym, ap, ap₂, ◌∙◌}
use Rattle.std.specs.Prelude.{Result, Ok, Err}
use mathlib.Core.Logic.{◌⊎◌, inl, inr}
use mathlib.Core.Bool.{Bool, true, false, cond, true≢false}
use mathlib.Core.List.{List, ◌++◌}
use Prim.Native.Nat.{ℕ, ◌≤◌, ◌<◌}
use native.Mathlib.Omega.{arith}
use lib.Dec.{eqb}
use lib.ListN.{length, take, drop, take-append-drop}
use lib.Seq.{length-take-le}
use Rattle.parity.specs.Stripe.{Valid, Blank}
use Rattle.parity.specs.Presence.{absences, Agrees}
use Rattle.parity.specs.Theorems.{AtMostOne}
use Rattle.parity.proofs.Theorems.{at_most_one}
use Rattle.cells.proofs.Parts.{by_order}
use Rattle.maps.specs.declared.Map.{Map}
use Rattle.maps.specs.declared.Gaps.{Gaps}
use Rattle.refusals.specs.declared.Refusal.{Refusal}
use Rattle.refusals.specs.declared.Refusal.TheVariants as refusal
use Rattle.refusals.specs.Refusals.{number_of, Verdict, pass, refuse, Gives}
use Rattle.inputs.specs.Rules.{gap_rules, restore_rules}
use Rattle.evenodd.specs.Restores.{Restores}
use Rattle.evenodd.specs.Determined.{RestoresOne}
use Rattle.refusals.proofs.Rules.{passes_not, refuse_one, gives_first, gives_next, gives_one, gives_after}
use Rattle.inputs.proofs.Tests.{gaps_passed}
use Rattle.evenodd.proofs.Determined.{restores_one}
use Rattle.inputs.specs.declared.shapes.Shape.{Shape}
use Rattle.image.specs.Reads.{contents_rules, Filled, ReadInto}
use Rattle.image.specs.Determined.{ReadsOne}
use Rattle.image.proofs.Determined.{reads_one}
use Rattle.judging.specs.declared.Outcome.{Outcome}
use Rattle.judging.specs.declared.Outcome.TheVariants as outcome
use Rattle.judging.specs.declared.Judgement.{Judgement}
use Rattle.judging.specs.Judgements.{Formed, outcome_verdict, verdict_of, part_rules, Complete, Benches, JudgesParts, stripe_of, bench_of, formed_rules, InParts, Unwritten, Leaves, JudgesFormed, Rejected, outcome_of, Names}
use Rattle.judging.specs.Theorems.{JudgesImageOne, PresentZeros, BlankTold, Enough}
use Rattle.judging.proofs.Judged.{said, judged, by_contents, formed_good, formed_truth, not_stray, read_passes, skip}
use Rattle.judging.proofs.Blank.{agrees_blank, blank_agrees, blank_stripe, stripe_blank, stripe_valid}
use Rattle.judging.proofs.Sizes.{most}

-- the refusals 2 and 3: no other refusal is one of them
abbrev Short : Refusal → Type 0
Short f = (f ≡ refusal.StripeLength) ⊎ (f ≡ refusal.BenchLength)

abbrev is_short : Refusal → Bool
is_short f = cond (eqb (number_of f) 2) true (eqb (number_of f) 3)

clash : {f g : Refusal} → Short f → refuse f ≡ refuse g → is_short g ≡ false → ⊥
clash {f} {g} (inl d) e n = true≢false (ap is_short (sym d ∙ refuse_one f g e) ∙ n)
clash {f} {g} (inr d) e n = true≢false (ap is_short (sym d ∙ refuse_one f g e) ∙ n)

-- two lists with the same first n bytes and the same bytes after them are one
pub joined : (n : ℕ) {x y : List ℕ} → take n x ≡ take n y → drop n x ≡ drop n y → x ≡ y
joined n {x} {y} e d = sym (take-append-drop n x) ∙ ap₂ (λ a b. a ++ b) e d ∙ take-append-drop n y

-- ---- what is judged in parts

module _ {image : List ℕ} (s bench : List ℕ) {shape : Shape} {map : Map} (f : Formed image shape map) (few : absences shape.k map.places ≤ 2)
    (long : length s ≡ stripe_of shape) (room : length bench ≡ bench_of shape) where
  reads : {x : List ℕ} → Filled shape.m shape.k shape.b map.places image s x
      → ReadInto image s x (Ok (said shape map))
  reads h = record { told = read_passes s f long; fills = (f.says, h) }

  rules : {x : List ℕ} {v : Verdict} → length x ≡ length s → Gives (part_rules shape map x) v
      → Gives (restore_rules shape.m shape.k shape.b map x (length bench)) v
  rules {x} e told =
      let g = formed_good f in
      gives_after (gap_rules shape.m shape.k shape.b map (length x) (length bench)) (part_rules shape map x) _
      (gaps_passed shape.m shape.k shape.b (length x) map (length bench) (record { shape = g.shape; stripe = e ∙ long; held = room; truth = formed_truth f; clear = not_stray f }) few) told

  columns : {x y : List ℕ} → length x ≡ length s → Gives (part_rules shape map x) pass → Complete shape map x bench y
      → (r : Result Gaps Refusal) × Restores shape.m shape.k shape.b map x bench y r
  columns e told c = (
    Ok (record { count = c.count; first = c.first; second = c.second }),
    record { told = rules e told; restored = λ _. c.restored; kept = λ g q. absurd (passes_not g q) },
  )

  restores : (x y : List ℕ) (o : Outcome) → length x ≡ length s → Gives (part_rules shape map x) (outcome_verdict o) → Benches shape map x bench y o
      → (r : Result Gaps Refusal) × Restores shape.m shape.k shape.b map x bench y r
  restores x y outcome.Complete e told (c, _) = columns e told c
  restores x y outcome.Blank e told (c, _) = columns e told c
  restores x y outcome.Contradicted e told c =
      (Err refusal.Contradicted, record { told = rules e told; restored = λ q. absurd (passes_not refusal.Contradicted (sym q)); kept = λ _ _. c })
  restores x y outcome.Ambiguous e told b = absurd b

  -- two that are complete have restored one stripe
  one_stripe : {x y z : List ℕ} (c : Complete shape map x bench y) (d : Complete shape map x bench z) → c.restored.stripe ≡ d.restored.stripe
  unfolding AtMostOne
  one_stripe {x} c d =
      let u = c.restored in
      let v = d.restored in
      at_most_one shape.m shape.k shape.b (formed_good f).shape map.places few x u.stripe v.stripe u.valid v.valid u.agrees v.agrees

  -- so one verdict is one outcome
  outcome_one : (x y z : List ℕ) (o p : Outcome) → outcome_verdict o ≡ outcome_verdict p → Benches shape map x bench y o → Benches shape map x bench z p → o ≡ p
  outcome_one _ _ _ outcome.Complete outcome.Complete e u v = refl
  outcome_one _ _ _ outcome.Complete outcome.Blank e (c, n) (d, z) = absurd (n (rw (one_stripe c d) z))
  outcome_one _ _ _ outcome.Complete outcome.Contradicted e u v = absurd (passes_not refusal.Contradicted e)
  outcome_one _ _ _ outcome.Complete outcome.Ambiguous e u v = absurd v
  outcome_one _ _ _ outcome.Blank outcome.Complete e (c, z) (d, n) = absurd (n (rw (one_stripe d c) z))
  outcome_one _ _ _ outcome.Blank outcome.Blank e u v = refl
  outcome_one _ _ _ outcome.Blank outcome.Contradicted e u v = absurd (passes_not refusal.Contradicted e)
  outcome_one _ _ _ outcome.Blank outcome.Ambiguous e u v = absurd v
  outcome_one _ _ _ outcome.Contradicted outcome.Complete e u v = absurd (passes_not refusal.Contradicted (sym e))
  outcome_one _ _ _ outcome.Contradicted outcome.Blank e u v = absurd (passes_not refusal.Contradicted (sym e))
  outcome_one _ _ _ outcome.Contradicted outcome.Contradicted e u v = refl
  outcome_one _ _ _ outcome.Contradicted outcome.Ambiguous e u v = absurd v
  outcome_one _ _ _ outcome.Ambiguous p e u v = absurd u

  parts_one : {x y z w : List ℕ} (o p : Outcome) → JudgesParts shape map image s x bench z o → JudgesParts shape map image s y bench w p
      → (o ≡ p) × (x ≡ y) × (z ≡ w)
  unfolding ReadsOne RestoresOne
  parts_one {x} {y} {z} {w} o p u v =
      let (_, same) = reads_one image s x y _ _ (reads u.read) (reads v.read) in
      let (r, h) = restores x z o u.read.size u.told u.benches in
      let (q, k) = restores y w p v.read.size v.told v.benches in
      let (_, bytes) = restores_one shape.m shape.k shape.b map x bench z w r q h (rw same k) in
      (outcome_one x z w o p (gives_one (part_rules shape map x) _ _ u.told (rw same v.told)) u.benches (rw same v.benches), same, bytes)

-- ---- what is judged of a well-formed image

-- what a refusal before the stripe is read is called
abbrev early : Refusal → Result Outcome Refusal
early f = cond (eqb (number_of f) 4) (Ok outcome.Ambiguous) (Err f)

module _ {image s after bench benched : List ℕ} {shape : Shape} {map : Map} (o : Result Outcome Refusal) (h : JudgesFormed shape map image s after bench benched o) where
  -- such a refusal writes nothing
  unwritten : (f : Refusal) → number_of f < 5 → ((x : List ℕ) → Gives (formed_rules shape map s bench x) (refuse f))
      → (o ≡ early f) × Unwritten s after bench benched
  unwritten f less gives = go o (gives_one (formed_rules shape map s bench (take (stripe_of shape) after)) _ _ h.told (gives _)) h.leaves
    where
      go : (o : Result Outcome Refusal) → verdict_of o ≡ refuse f → Leaves shape map image s after bench benched o → (o ≡ early f) × Unwritten s after bench benched
      go (Ok outcome.Complete) e l = absurd (passes_not f e)
      go (Ok outcome.Blank) e l = absurd (passes_not f e)
      go (Ok outcome.Contradicted) e l = absurd (let n = ap number_of (refuse_one refusal.Contradicted f e) in omega arith)
      go (Ok outcome.Ambiguous) e w = (ap early (refuse_one refusal.Ambiguous f e), w)
      go (Err g) e (inl d, w) = (ap Err d ∙ ap early (sym d ∙ refuse_one g f e), w)
      go (Err g) e (inr d, w) = (ap Err d ∙ ap early (sym d ∙ refuse_one g f e), w)

  -- what the last rule decides is judged in parts
  in_parts : absences shape.k map.places ≤ 2 → stripe_of shape ≤ length s → bench_of shape ≤ length bench
      → (r : Outcome) × (o ≡ Ok r) × InParts shape map image s after bench benched r
  in_parts few long room = go o (skip (λ q. omega arith) (skip (λ q. omega arith) (skip (λ q. omega arith) h.told))) h.leaves
    where
      go : (o : Result Outcome Refusal) → Gives (part_rules shape map (take (stripe_of shape) after)) (verdict_of o) → Leaves shape map image s after bench benched o
          → (r : Outcome) × (o ≡ Ok r) × InParts shape map image s after bench benched r
      go (Ok outcome.Complete) told l = (outcome.Complete, refl, l)
      go (Ok outcome.Blank) told l = (outcome.Blank, refl, l)
      go (Ok outcome.Contradicted) told l = (outcome.Contradicted, refl, l)
      go (Ok outcome.Ambiguous) (inl p) l = absurd (let n = ap number_of (refuse_one refusal.Ambiguous refusal.Contradicted p.1) in omega arith)
      go (Ok outcome.Ambiguous) (inr p) l = absurd (passes_not refusal.Ambiguous (sym p.1))
      go (Err f) (inl p) l = absurd (clash l.0 p.1 refl)
      go (Err f) (inr p) l = absurd (passes_not f (sym p.1))

module _ {image s bench after after' benched benched' : List ℕ} {shape : Shape} {map : Map} (f : Formed image shape map) (o p : Result Outcome Refusal)
    (u : JudgesFormed shape map image s after bench benched o) (v : JudgesFormed shape map image s after' bench benched' p) where
  abbrev Same : Type 0
  Same = (o ≡ p) × (after ≡ after') × (benched ≡ benched')

  refused : (g : Refusal) → number_of g < 5 → ((x : List ℕ) → Gives (formed_rules shape map s bench x) (refuse g)) → Same
  refused g less gives =
      let (a, x) = unwritten o u g less gives in
      let (b, y) = unwritten p v g less gives in
      (a ∙ sym b, x.whole ∙ sym y.whole, x.spare ∙ sym y.spare)

  lent : absences shape.k map.places ≤ 2 → stripe_of shape ≤ length s → bench_of shape ≤ length bench → Same
  lent few long room =
      let (r, is, a) = in_parts o u few long room in
      let (q, other, b) = in_parts p v few long room in
      let n = length-take-le (stripe_of shape) s long in
      let c = length-take-le (bench_of shape) bench room in
      let (same, stripe, bytes) = parts_one (take (stripe_of shape) s) (take (bench_of shape) bench) f few n c r q a.parts b.parts in
      (is ∙ ap Ok same ∙ sym other, joined (stripe_of shape) stripe (a.rest ∙ sym b.rest), joined (bench_of shape) bytes (a.spare ∙ sym b.spare))

  formed_one : Same
  formed_one =
      by_order Same 2 (absences shape.k map.places)
      (λ many. refused refusal.Ambiguous (omega arith) (λ x. gives_first many)) (λ few.
      by_order Same (length s) (stripe_of shape)
      (λ short. refused refusal.StripeLength (omega arith) (λ x. gives_next (λ q. omega arith) (gives_first short))) (λ long.
      by_order Same (length bench) (bench_of shape)
      (λ short. refused refusal.BenchLength (omega arith) (λ x. gives_next (λ q. omega arith) (gives_next (λ q. omega arith) (gives_first short))))
      (λ room. lent few long room)))

-- ---- what is judged of an image

module _ {s bench after after' benched benched' : List ℕ} where
  rejected_one : (f : Refusal) (r r' : Result Judgement Refusal) → Rejected f s after bench benched r → Rejected f s after' bench benched' r'
      → (r ≡ r') × (after ≡ after') × (benched ≡ benched')
  rejected_one f r r' u v =
      (u.outcome ∙ sym v.outcome, u.unwritten.whole ∙ sym v.unwritten.whole, u.unwritten.spare ∙ sym v.unwritten.spare)

-- a judgement is the shape, the map and the outcome
named : (shape : Shape) (map : Map) (r : Result Judgement Refusal) → Names shape map r → r ≡ Ok (judged shape map (outcome_of r))
named shape map (Ok j) (e, d) = rw (← e, ← d) refl
named shape map (Err f) none = absurd none

pub judges_image_one : JudgesImageOne
unfolding JudgesImageOne
judges_image_one image s bench after after' benched benched' r r' u v =
    by_contents ((r ≡ r') × (after ≡ after') × (benched ≡ benched')) u.contents
    (λ l. rejected_one refusal.TooLong r r' (u.long l) (v.long l))
    (λ l f t. rejected_one f r r' (u.bad l f t) (v.bad l f t))
    (λ l shape map h.
    let (m, j) = u.formed l shape map h in
    let (n, k) = v.formed l shape map h in
    let (same, stripe, bytes) = formed_one h (outcome_of r) (outcome_of r') j k in
    (named shape map r m ∙ ap (λ o. Ok (judged shape map o)) same ∙ sym (named shape map r' n), stripe, bytes))

-- ---- what is judged blank

-- where every byte that is present is zero, the blank stripe fits, and no other does
module _ {image : List ℕ} {shape : Shape} {map : Map} (formed : Formed image shape map) (few : absences shape.k map.places ≤ 2) (x : List ℕ)
    (c : PresentZeros shape.m shape.k shape.b map.places x) where
  zeros : List ℕ
  zeros = blank_stripe shape.m shape.k shape.b

  fits : Agrees shape.m shape.k shape.b map.places x zeros
  unfolding zeros
  fits = blank_agrees (stripe_blank shape.m shape.k shape.b) c

  only : (v : List ℕ) → Valid shape.m shape.k shape.b v → Agrees shape.m shape.k shape.b map.places x v → Blank shape.m shape.k shape.b v
  unfolding zeros AtMostOne
  only v valid a =
      let one = at_most_one shape.m shape.k shape.b (formed_good formed).shape map.places few x v zeros valid (stripe_valid shape.m shape.k shape.b) a fits in
      rw one (stripe_blank shape.m shape.k shape.b)

  not_contradicted : Gives (part_rules shape map x) (refuse refusal.Contradicted) → ⊥
  unfolding zeros
  not_contradicted (inl q) = q.0 zeros (stripe_valid shape.m shape.k shape.b) fits
  not_contradicted (inr q) = passes_not refusal.Contradicted (sym q.1)

pub blank_told : BlankTold
unfolding BlankTold
blank_told image s after bench benched r shape map h short formed few long room =
    let (names, judges) = h.formed short shape map formed in
    let (o, is, parts) = in_parts (outcome_of r) judges few long room in
    let whole : r ≡ Ok (judged shape map (Ok o)) = named shape map r names ∙ ap (λ q. Ok (judged shape map q)) is in
    (λ e. (let blank : Ok o ≡ Ok outcome.Blank = sym is ∙ ap outcome_of e in let same : o ≡ outcome.Blank = cc in there (rw same at parts)), λ c. whole ∙ ap (λ q. Ok (judged shape map (Ok q))) (go o parts c))
  where
    -- the stripe as it was read
    x : List ℕ
    x = take (stripe_of shape) after

    there : InParts shape map image s after bench benched outcome.Blank → PresentZeros shape.m shape.k shape.b map.places x
    there p = let (c, z) = p.parts.benches in agrees_blank z c.restored.agrees

    go : (o : Outcome) → InParts shape map image s after bench benched o → PresentZeros shape.m shape.k shape.b map.places x → o ≡ outcome.Blank
    go outcome.Complete p c =
        let (d, n) = p.parts.benches in absurd (n (only formed few x c d.restored.stripe d.restored.valid d.restored.agrees))
    go outcome.Blank p c = refl
    go outcome.Contradicted p c = absurd (not_contradicted formed few x c p.parts.told)
    go outcome.Ambiguous p c = absurd p.parts.benches

-- ---- what is never judged where enough is lent

module _ {f : Refusal} (short : Short f) where
  -- the contents are not refused by 2 or 3
  not_contents : (image : List ℕ) → Gives (contents_rules image) (refuse f) → ⊥
  not_contents image (inl p) = clash short p.1 refl
  not_contents image (inr (_, inl p)) = clash short p.1 refl
  not_contents image (inr (_, inr (_, inl p))) = clash short p.1 refl
  not_contents image (inr (_, inr (_, inr (_, inl p)))) = clash short p.1 refl
  not_contents image (inr (_, inr (_, inr (_, inr (_, inl p))))) = clash short p.1 refl
  not_contents image (inr (_, inr (_, inr (_, inr (_, inr p))))) = passes_not f (sym p.1)

  -- nor is a well-formed image, if its stripe and its bench have room
  not_formed : (shape : Shape) (map : Map) (s bench x : List ℕ)
      → (absences shape.k map.places ≤ 2 → (stripe_of shape ≤ length s) × (bench_of shape ≤ length bench))
      → Gives (formed_rules shape map s bench x) (refuse f) → ⊥
  not_formed shape map s bench x fits (inl p) = clash short p.1 refl
  not_formed shape map s bench x fits (inr (few, inl p)) = omega (arith, p.0, (fits (omega arith)).0)
  not_formed shape map s bench x fits (inr (few, inr (_, inl p))) = omega (arith, p.0, (fits (omega arith)).1)
  not_formed shape map s bench x fits (inr (few, inr (_, inr (_, inl p)))) = clash short p.1 refl
  not_formed shape map s bench x fits (inr (few, inr (_, inr (_, inr p)))) = passes_not f (sym p.1)

pub enough : Enough
unfolding Enough
enough image s after bench benched r long room h = (none refusal.StripeLength (inl refl), none refusal.BenchLength (inr refl))
  where
    fits : length image ≤ 16384 → (shape : Shape) (map : Map) → Formed image shape map → absences shape.k map.places ≤ 2
        → (stripe_of shape ≤ length s) × (bench_of shape ≤ length bench)
    fits l shape map formed few = let (stripe, double) = most (formed_good formed) l few in (omega arith, omega arith)

    none : (f : Refusal) → Short f → outcome_of r ≡ Err f → ⊥
    none f short e =
        by_contents ⊥ h.contents
        (λ l. clash short (ap verdict_of (sym e ∙ ap outcome_of (h.long l).outcome)) refl)
        (λ l g t. not_contents short image (rw (ap verdict_of (sym e ∙ ap outcome_of (h.bad l g t).outcome)) t))
        (λ l shape map formed. not_formed short shape map s bench _ (fits l shape map formed) (rw e at (h.formed l shape map formed).1.told))
