-- Laws of judgements.
--   said, judged                  what the contents of a well-formed image say, and its judgement
--   formed_good                   what is known of an image whose contents say a shape
--   by_contents                   an image is too long, or its contents are refused, or it is well formed
--   not_stray, formed_truth, formed_absent    its map has no place above its columns, and is true: so its count tells how many are absent
--   bench_size                    the bench that was lent comes back with its length
--   read_passes, read_ok, read_fills   such an image is read into a stripe of its length, and what that leaves
--   skip                          a rule whose condition fails is passed over
--   parts_held                    where restore passes, every column can be shown
--   parts_blank, parts_complete, parts_contradicted    a judgement in parts, by what restore answers and whether the columns are blank
--   part_size                     the length of a part that begins a buffer
--   formed_ambiguous, formed_stripe, formed_bench, formed_lent    a judgement of a well-formed image, by the way out
--   image_long, image_bad, image_formed   a judgement of an image, by the way out
use mathlib.Core.Path.{◌≡◌, refl, sym, ap, ◌∙◌}
use Rattle.std.specs.Prelude.{Result, Ok, Err, IsOk}
use mathlib.Core.Logic.{◌⊎◌, inl, inr}
use mathlib.Core.Bool.{true≢false}
use mathlib.Core.List.{List, [], ◌∷◌, ◌++◌}
use Prim.Native.Nat.{ℕ, ◌+◌, ◌-◌, ◌≤◌, ◌<◌}
use native.Mathlib.Omega.{arith}
use lib.ListN.{length, take, drop}
use lib.Seq.{take_at, drop_at, length-take-le}
use borrow.Rule.Slice.PartMut.{put_mid}
use Rattle.parity.specs.Presence.{absences}
use Rattle.cells.proofs.Parts.{by_order}
use Rattle.maps.specs.declared.Map.{Map}
use Rattle.maps.specs.declared.Gaps.{Gaps}
use Rattle.refusals.specs.declared.Refusal.{Refusal}
use Rattle.refusals.specs.declared.Refusal.TheVariants as refusal
use Rattle.refusals.specs.Refusals.{Verdict, pass, refuse, Gives}
use Rattle.maps.specs.Absent.{Stray}
use Rattle.maps.specs.Truth.{TrueMap, absent_by_count}
use Rattle.inputs.specs.Rules.{stripe_length_differs, contradicted, gap_rules}
use Rattle.evenodd.specs.Restores.{Restores}
use Rattle.end_to_end.specs.OneOrNothing.{Together}
use Rattle.end_to_end.proofs.OneOrNothing.{together}
use Rattle.refusals.proofs.Rules.{passes_not, refuse_one, gives_first, gives_next, gives_one, gives_after, gives_rest}
use Rattle.inputs.proofs.Tests.{gaps_passed}
use Rattle.maps.proofs.Truth.{absent_counted}
use Rattle.inputs.specs.declared.shapes.Shape.{Shape}
use Rattle.image.specs.declared.answers.Contents.{Contents}
use Rattle.image.specs.Reads.{m_in, k_in, b_in, contents_rules, read_rules, ContentsOf, Filled, ReadInto}
use Rattle.image.proofs.Filling.{Good, good_contents}
use Rattle.image.proofs.Determined.{answers_one, read_contents}
use Rattle.judging.specs.declared.Outcome.{Outcome}
use Rattle.judging.specs.declared.Outcome.TheVariants as outcome
use Rattle.judging.specs.declared.Judgement.{Judgement}
use Rattle.judging.specs.Shown.{ShownZeros, Held}
use Rattle.judging.specs.Judgements.{Formed, part_rules, Complete, Benches, JudgesParts, stripe_of, bench_of, InParts, Leaves, JudgesFormed, JudgesImage}
use Rattle.judging.proofs.Blank.{shown_blank, blank_shown}

-- what the contents of such an image say
abbrev pub said : Shape → Map → Contents
said shape map = record { shape = shape; map = map }

-- its judgement
abbrev pub judged : Shape → Map → Result Outcome Refusal → Judgement
judged shape map o = record { shape = shape; map = map; outcome = o }

pub formed_good : {image : List ℕ} {shape : Shape} {map : Map} → Formed image shape map → Good image shape.m shape.k shape.b map.places
formed_good {image} {shape} {map} f = good_contents image (said shape map) f

pub by_contents : {image : List ℕ} (P : Type 0) → (length image ≤ 16384 → (c : Result Contents Refusal) × ContentsOf image c) → (16384 < length image → P)
    → (length image ≤ 16384 → (f : Refusal) → Gives (contents_rules image) (refuse f) → P)
    → (length image ≤ 16384 → (shape : Shape) (map : Map) → Formed image shape map → P) → P
by_contents {image} P contents long bad formed = by_order P 16384 (length image) long (λ l. let (c, found) = contents l in go l c found)
  where
    go : (l : length image ≤ 16384) (c : Result Contents Refusal) → ContentsOf image c → P
    go l (Ok c) found = formed l c.shape c.map found
    go l (Err f) found = bad l f found.told

-- no place above the columns is present
pub not_stray : {image : List ℕ} {shape : Shape} {map : Map} → Formed image shape map → Stray shape.k map.places → ⊥
not_stray f p = true≢false (sym p.there ∙ f.says.formed.clear p.at p.above)

pub formed_truth : {image : List ℕ} {shape : Shape} {map : Map} → Formed image shape map → TrueMap map
formed_truth f = f.says.truth

pub formed_absent : {image : List ℕ} {shape : Shape} {map : Map} → Formed image shape map
    → (map.present ≤ shape.k + 2) × (absences shape.k map.places ≡ absent_by_count shape.k map)
formed_absent {shape = shape} {map = map} f = absent_counted map (formed_truth f) shape.k (not_stray f)

pub read_passes : {image : List ℕ} (s : List ℕ) {shape : Shape} {map : Map} → Formed image shape map → length s ≡ stripe_of shape
    → Gives (read_rules image (length s)) pass
read_passes {image} s f n =
    let own = f.says.own in
    gives_after (contents_rules image) (stripe_length_differs (m_in image) (k_in image) (b_in image) (length s) ∷ []) pass f.told (gives_next (λ d. d (rw (own.first, own.second, own.third) at n)) refl)

module _ {image s after : List ℕ} {shape : Shape} {map : Map} (f : Formed image shape map) (n : length s ≡ stripe_of shape) where
  pub read_ok : (r : Result Contents Refusal) → ReadInto image s after r → IsOk r
  read_ok (Ok c) h = refl
  read_ok (Err e) h = absurd (passes_not e (gives_one (read_rules image (length s)) pass (refuse e) (read_passes s f n) h.told))

  pub read_fills : (r : Result Contents Refusal) → ReadInto image s after r → Filled shape.m shape.k shape.b map.places image s after
  read_fills (Ok c) h = let same : c ≡ said shape map = answers_one (read_contents h).0 f in rw same at h.fills.1
  read_fills (Err e) h = absurd (passes_not e (gives_one (read_rules image (length s)) pass (refuse e) (read_passes s f n) h.told))

pub skip : {C R : Type 0} {v w : Verdict} → (C → ⊥) → (C × (v ≡ w)) ⊎ ((C → ⊥) × R) → R
skip n (inl p) = absurd (n p.0)
skip n (inr p) = p.1

module _ {image s filled bench after : List ℕ} {shape : Shape} {map : Map} (f : Formed image shape map) (h : Filled shape.m shape.k shape.b map.places image s filled) where
  module _ {gaps : Gaps} (r : Restores shape.m shape.k shape.b map filled bench after (Ok gaps)) where
    from : Complete shape map filled bench after
    from = record { count = gaps.count; first = gaps.first; second = gaps.second; restored = r.restored refl }

    fits : Gives (part_rules shape map filled) pass
    fits = let u = from.restored in gives_next (λ none. none u.stripe u.valid u.agrees) refl

    module _ (few : absences shape.k map.places ≤ 2) where
      one : Together shape.m shape.k shape.b map.places filled after from.restored.stripe
      one = together few from.restored

      good : Good image shape.m shape.k shape.b map.places
      good = formed_good f

      pub parts_held : length s ≡ stripe_of shape → length bench ≡ bench_of shape → Held shape.m shape.k shape.b map filled after
      parts_held long room = record {
        shape = good.shape;
        stripe = h.size ∙ long;
        room = from.restored.bench.size ∙ room;
        truth = formed_truth f;
        clear = not_stray f;
        few = few;
      }

      pub parts_blank : ShownZeros shape.m shape.k shape.b map.places filled after → JudgesParts shape map image s filled bench after outcome.Blank
      parts_blank z = record {
        read = h;
        told = fits;
        benches = (from, shown_blank one z);
      }

      pub parts_complete : (ShownZeros shape.m shape.k shape.b map.places filled after → ⊥)
          → JudgesParts shape map image s filled bench after outcome.Complete
      parts_complete n = record { read = h; told = fits; benches = (from, λ z. n (blank_shown one good.shape.filled z)) }

  pub parts_contradicted : length s ≡ stripe_of shape → length bench ≡ bench_of shape → absences shape.k map.places ≤ 2 → (e : Refusal)
      → Restores shape.m shape.k shape.b map filled bench after (Err e)
      → JudgesParts shape map image s filled bench after outcome.Contradicted
  parts_contradicted long room few e r =
      let g = formed_good f in
      record {
        read = h;
        told = go (gives_rest (gap_rules shape.m shape.k shape.b map (length filled) (length bench)) (contradicted shape.m shape.k shape.b map filled ∷ []) _
            (gaps_passed shape.m shape.k shape.b (length filled) map (length bench) (record { shape = g.shape; stripe = h.size ∙ long; held = room; truth = formed_truth f; clear = not_stray f }) few)
            r.told);
        benches = r.kept e refl;
      }
    where
      go : {C : Type 0} → (C × (refuse e ≡ refuse refusal.Contradicted)) ⊎ ((C → ⊥) × (refuse e ≡ pass))
          → (C × (refuse refusal.Contradicted ≡ refuse refusal.Contradicted)) ⊎ ((C → ⊥) × (refuse refusal.Contradicted ≡ pass))
      go (inl p) = gives_first p.0
      go (inr p) = absurd (passes_not e (sym p.1))

-- the bench that was lent comes back with its length
pub bench_size : (shape : Shape) (map : Map) (filled before after : List ℕ) (r : Outcome) → Benches shape map filled before after r → length after ≡ length before
bench_size shape map filled before after outcome.Complete p = p.0.restored.bench.size
bench_size shape map filled before after outcome.Blank p = p.0.restored.bench.size
bench_size shape map filled before after outcome.Contradicted p = ap length p
bench_size shape map filled before after outcome.Ambiguous p = absurd p

-- the length of a part that begins a buffer
pub part_size : (n : ℕ) (x : List ℕ) → n ≤ length x → length (take (n - 0) x) ≡ n
part_size n x h = let e : n - 0 ≡ n = omega arith in rw e (length-take-le n x h)

module _ {image s bench : List ℕ} {shape : Shape} {map : Map} where
  pub formed_ambiguous : 3 ≤ absences shape.k map.places → JudgesFormed shape map image s s bench bench (Ok outcome.Ambiguous)
  formed_ambiguous h = record { told = gives_first h; leaves = record { whole = refl; spare = refl } }

  module _ (few : absences shape.k map.places ≤ 2) where
    pub formed_stripe : length s < stripe_of shape → JudgesFormed shape map image s s bench bench (Err refusal.StripeLength)
    formed_stripe h = record { told = gives_next (λ q. omega arith) (gives_first h); leaves = (inl refl, record { whole = refl; spare = refl }) }

    module _ (long : stripe_of shape ≤ length s) where
      pub formed_bench : length bench < bench_of shape → JudgesFormed shape map image s s bench bench (Err refusal.BenchLength)
      formed_bench h = record {
        told = gives_next (λ q. omega arith) (gives_next (λ q. omega arith) (gives_first h));
        leaves = (inr refl, record { whole = refl; spare = refl });
      }

      module _ (room : bench_of shape ≤ length bench) (y z : List ℕ) where
        in_parts : (r : Outcome) → length y ≡ stripe_of shape → length z ≡ bench_of shape
            → JudgesParts shape map image (take (stripe_of shape) s) y (take (bench_of shape) bench) z r
            → InParts shape map image s (y ++ drop (stripe_of shape) s) bench (z ++ drop (bench_of shape) bench) r
        in_parts r ly lz p = record {
          parts = rw (take_at y (drop (stripe_of shape) s) (stripe_of shape) ly, take_at z (drop (bench_of shape) bench) (bench_of shape) lz) p;
          rest = drop_at y (drop (stripe_of shape) s) (stripe_of shape) ly;
          spare = drop_at z (drop (bench_of shape) bench) (bench_of shape) lz;
        }

        leaves : (r : Outcome) → Benches shape map y (take (bench_of shape) bench) z r → InParts shape map image s (y ++ drop (stripe_of shape) s) bench (z ++ drop (bench_of shape) bench) r
            → Leaves shape map image s (y ++ drop (stripe_of shape) s) bench (z ++ drop (bench_of shape) bench) (Ok r)
        leaves outcome.Complete b p = p
        leaves outcome.Blank b p = p
        leaves outcome.Contradicted b p = p
        leaves outcome.Ambiguous b p = absurd b

        formed_parts : (r : Outcome) → JudgesParts shape map image (take (stripe_of shape) s) y (take (bench_of shape) bench) z r
            → JudgesFormed shape map image s (y ++ drop (stripe_of shape) s) bench (z ++ drop (bench_of shape) bench) (Ok r)
        formed_parts r p =
            let q = in_parts r (p.read.size ∙ length-take-le (stripe_of shape) s long) (bench_size shape map y (take (bench_of shape) bench) z r p.benches ∙ length-take-le (bench_of shape) bench room) p in
            record {
              told = gives_next (λ h. omega arith) (gives_next (λ h. omega arith) (gives_next (λ h. omega arith) q.parts.told));
              leaves = leaves r p.benches q;
            }

        pub formed_lent : (n c : ℕ) → n ≡ stripe_of shape → c ≡ bench_of shape → (r : Outcome)
            → JudgesParts shape map image (take (n - 0) (drop 0 s)) y (take (c - 0) (drop 0 bench)) z r
            → JudgesFormed shape map image s (put_mid 0 (n - 0) s y) bench (put_mid 0 (c - 0) bench z) (Ok r)
        formed_lent n c e d r p =
            let u : n - 0 ≡ stripe_of shape = omega arith in
            let v : c - 0 ≡ bench_of shape = omega arith in
            rw (u, v) (formed_parts r (rw (u, v) at p))

module _ {image s after bench benched : List ℕ} where
  pub image_long : 16384 < length image → after ≡ s → benched ≡ bench → JudgesImage image s after bench benched (Err refusal.TooLong)
  image_long h p q = record {
    contents = λ l. absurd (omega arith);
    long = λ _. record { outcome = refl; unwritten = record { whole = p; spare = q } };
    bad = λ l. absurd (omega arith);
    formed = λ l. absurd (omega arith);
  }

  module _ (small : length image ≤ 16384) where
    pub image_bad : (f : Refusal) → ContentsOf image (Err f) → after ≡ s → benched ≡ bench → JudgesImage image s after bench benched (Err f)
    image_bad f found p q = record {
      contents = λ _. (Err f, found);
      long = λ h. absurd (omega arith);
      bad = λ _ g t. record { outcome = ap Err (refuse_one f g (gives_one (contents_rules image) (refuse f) (refuse g) found.told t)); unwritten = record { whole = p; spare = q } };
      formed = λ _ shape map h. absurd (passes_not f (gives_one (contents_rules image) pass (refuse f) h.told found.told));
    }

    pub image_formed : (shape : Shape) (map : Map) → Formed image shape map → (o : Result Outcome Refusal)
        → JudgesFormed shape map image s after bench benched o → JudgesImage image s after bench benched (Ok (judged shape map o))
    image_formed shape map found o j = record {
      contents = λ _. (Ok (said shape map), found);
      long = λ h. absurd (omega arith);
      bad = λ _ g t. absurd (passes_not g (gives_one (contents_rules image) pass (refuse g) found.told t));
      formed = λ _ other places h.
          let same : said shape map ≡ said other places = answers_one found h in
          let first : shape ≡ other = ap (λ c. c.shape) same in
          let second : map ≡ places = ap (λ c. c.map) same in
          ((first, second), rw (← first, ← second) j);
    }
