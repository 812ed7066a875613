-- What is known of a judged image where its report is written.
--   text_room      the text of an image of at most 16,384 bytes with at most two columns absent has at most 102,400 bytes
--   Told, told     a judgement that has a shape: the image is short enough and well formed
--   outcome_is     the outcome of such an image, where it has one
--   told_fits      the numbers of the shape have at most four digits
--   tellable       where every column is there, the columns can be shown, and their text has room
--   held_lent, text_lent    the same of the parts of the stripe and of the bench as they are lent
use mathlib.Core.Path.{◌≡◌, sym, ap, ◌∙◌}
use mathlib.Core.Logic.{◌⊎◌, inl, inr}
use mathlib.Core.Bool.{Bool}
use mathlib.Core.List.{List, ◌++◌}
use Prim.Native.Nat.{ℕ, ◌+◌, ◌*◌, ◌-◌, ◌≤◌, ◌<◌}
use native.Mathlib.Nat.{add-mul, mul-add, mul_comm, mul_assoc}
use native.Mathlib.Omega.{arith}
use lib.ListN.{length, take, drop}
use lib.Seq.{length-take-le, take_all}
use Rattle.parity.specs.Shape.{column_length}
use Rattle.parity.specs.Presence.{absences}
use Rattle.cells.proofs.Parts.{by_order}
use Rattle.maps.specs.declared.Map.{Map}
use Rattle.refusals.specs.Refusals.{pass, Gives}
use Rattle.refusals.proofs.Rules.{passed_first}
use Rattle.image.proofs.Filling.{Good}
use Rattle.std.specs.Prelude.{Result, Ok, Err}
use Rattle.refusals.specs.declared.Refusal.{Refusal}
use Rattle.inputs.specs.declared.shapes.Shape.{Shape}
use Rattle.judging.specs.declared.Outcome.{Outcome}
use Rattle.judging.specs.declared.Outcome.TheVariants as outcome
use Rattle.judging.specs.declared.Judgement.{Judgement}
use Rattle.judging.specs.Shown.{shown, Held}
use Rattle.report.specs.Lines.{shape_line, column_lines, done_line}
use Rattle.judging.specs.Judgements.{Formed, stripe_of, bench_of, formed_rules, InParts, JudgesFormed, JudgesImage}
use Rattle.report.specs.Reports.{complete_text, Tellable}
use Rattle.judging.proofs.Sizes.{small}
use Rattle.judging.proofs.Judged.{by_contents, formed_good, formed_truth, not_stray, bench_size}

module _ {image : List ℕ} {m k b : ℕ} {map : List Bool} (g : Good image m k b map) (short : length image ≤ 16384) (few : absences k map ≤ 2) where
  text_room : 36 + (k + 2) * (15 + 2 * column_length m b) ≤ 102400
  text_room =
      let c = column_length m b in
      let (all, one) = small g short few in
      let two : k * (2 * c) ≡ 2 * (k * c) = sym (mul_assoc k 2 c) ∙ ap (λ (x : ℕ). x * c) (mul_comm k 2) ∙ mul_assoc 2 k c in
      let s = g.shape in
      omega (arith, add-mul k 2 (15 + 2 * c), mul-add k 15 (2 * c), s.few, s.value.most)

pub outcome_is : {o : Result Outcome Refusal} {x y : Outcome} → o ≡ Ok x → x ≡ y → o ≡ Ok y
outcome_is e d = rw d at e

pub record Told (image s after bench benched : List ℕ) (j : Judgement) : Type 0 where
  pub short : length image ≤ 16384
  pub formed : Formed image j.shape j.map
  pub judged : JudgesFormed j.shape j.map image s after bench benched j.outcome

-- an image that is judged has a shape
not_rejected : {j : Judgement} {f : Refusal} {P : Type 0} → ◌≡◌ {A = Result Judgement Refusal} (Ok j) (Err f) → P
not_rejected e = let z : ◌≡◌ {A = ℕ} 0 1 = cc in absurd (omega arith)

module _ {image s after bench benched : List ℕ} where
  pub told : (j : Judgement) → JudgesImage image s after bench benched (Ok j) → Told image s after bench benched j
  told j h = by_contents (Told image s after bench benched j) h.contents
      (λ l. not_rejected (h.long l).outcome)
      (λ l f t. not_rejected (h.bad l f t).outcome)
      (λ l shape map formed.
      let ((x, y), judged) = h.formed l shape map formed in
      record { short = l; formed = rw (x, y) formed; judged = rw (x, y) judged })

  module _ {j : Judgement} (t : Told image s after bench benched j) where
    pub told_fits : (j.shape.m < 10000) × (j.shape.k < 10000) × (j.shape.b < 10000)
    told_fits = let x = (formed_good t.formed).shape in (omega (arith, x.value.most), omega (arith, x.few, x.value.most), omega (arith, x.short))

    -- every column is there, blank or not
    abbrev There : Result Outcome Refusal → Type 0
    There o = (o ≡ Ok outcome.Complete) ⊎ (o ≡ Ok outcome.Blank)

    in_parts : (o : Result Outcome Refusal) → There o → JudgesFormed j.shape j.map image s after bench benched o
        → Gives (formed_rules j.shape j.map s bench (take (stripe_of j.shape) after)) pass × ((r : Outcome) × InParts j.shape j.map image s after bench benched r)
    in_parts o (inl e) h = let q : JudgesFormed j.shape j.map image s after bench benched (Ok outcome.Complete) = rw e at h in (q.told, (outcome.Complete, q.leaves))
    in_parts o (inr e) h = let q : JudgesFormed j.shape j.map image s after bench benched (Ok outcome.Blank) = rw e at h in (q.told, (outcome.Blank, q.leaves))

    pub tellable : (room : ℕ) → 102400 ≤ room → There j.outcome → Tellable j.shape j.map after benched room
    tellable room most there =
        let g = formed_good t.formed in
        let (passed, (r, l)) = in_parts j.outcome there t.judged in
        let (few, more) = passed_first passed in
        let (long, q) = passed_first more in
        let (spare, _) = passed_first q in
        let p = l.parts in
        let size = p.read.size ∙ length-take-le (stripe_of j.shape) s (omega arith) in
        let double = bench_size j.shape j.map _ _ _ r p.benches ∙ length-take-le (bench_of j.shape) bench (omega arith) in
        record {
          held = record { shape = g.shape; stripe = size; room = double; truth = formed_truth t.formed; clear = not_stray t.formed; few = omega arith };
          long = whole (stripe_of j.shape) after size;
          spare = whole (bench_of j.shape) benched double;
          fits = omega (arith, text_room g t.short (omega arith));
        }
      where
        whole : (n : ℕ) (x : List ℕ) → length (take n x) ≡ n → n ≤ length x
        whole n x e = by_order (n ≤ length x) (length x) n (λ l. absurd (omega (arith, ap length (take_all n x (omega arith))))) (λ l. l)

-- parts that begin the buffers, as they are lent
module _ (shape : Shape) (map : Map) (s bench : List ℕ) (n c : ℕ) (e : n ≡ stripe_of shape) (d : c ≡ bench_of shape) where
  u : n - 0 ≡ stripe_of shape
  u = omega arith

  v : c - 0 ≡ bench_of shape
  v = omega arith

  pub held_lent : Held shape.m shape.k shape.b map (take (stripe_of shape) s) (take (bench_of shape) bench)
      → Held shape.m shape.k shape.b map (take (n - 0) (drop 0 s)) (take (c - 0) (drop 0 bench))
  held_lent h = rw (u, v) h

  pub text_lent : (blank : Bool)
      → shape_line shape.m shape.k shape.b ++ column_lines (shape.k + 2) map.places (shown shape.m shape.b map.places (take (n - 0) (drop 0 s)) (take (c - 0) (drop 0 bench))) ++ done_line blank
      ≡ complete_text shape map s bench blank
  text_lent blank = rw (u, v)
