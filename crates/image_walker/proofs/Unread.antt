-- The proof of `StepsUnread`: whether an image is well formed, and with which map, is told by its length and the bytes before its bodies. So the rules of a step
-- give one verdict for two images that agree there, and by one map and one shape the same is found.
--   ..-same         a number, a state, the start of a body, a right and a well-formed image: the same in a list that agrees before the bodies
--   gives_past      of two lists of rules in a row another stands for the second, which is asked where the first passes
use mathlib.Core.Path.{◌≡◌, refl, sym, ap, ap₂, ◌∙◌}
use mathlib.Core.Logic.{inl, inr}
use mathlib.Core.Bool.{Bool}
use mathlib.Core.List.{List, [], ◌∷◌, ◌++◌}
use Prim.Native.Nat.{ℕ, ◌+◌, ◌*◌, ◌≤◌, ◌<◌}
use native.Mathlib.Omega.{arith}
use lib.Dec.{eqb}
use lib.ListN.{length, get_or}
use Rattle.parity.specs.Shape.{Shape, column_length}
use Rattle.parity.proofs.Count.{count_cong}
use Rattle.std.specs.Prelude.{Option, Some, None, Result, Ok, Err}
use Rattle.refusals.specs.declared.Refusal.{Refusal}
use Rattle.refusals.specs.Refusals.{Verdict, pass, verdict_of, Rule, Gives}
use Rattle.refusals.proofs.Rules.{passed_first, gives_passed}
use Rattle.inputs.specs.Rules.{shape_rules}
use Rattle.inputs.proofs.ShapeLaws.{passes_shape}
use Rattle.image.specs.Format.{bodies_at, WellFormed}
use Rattle.image.specs.Reads.{number2, m_in, k_in, b_in, bad_header, malformed}
use Rattle.image.specs.Entries.{number4, entry_at, says_present, Entry, body_at}
use Rattle.image.proofs.Digits.{Bytes}
use Rattle.image.proofs.Formed.{Right, formed_says, formed_right, right_formed}
use Rattle.image_walker.specs.declared.steps.Found.{Found}
use Rattle.image_walker.specs.Steps.{past_the_end, walk_rules, Finds}
use Rattle.image_walker.specs.Determined.{StepsUnread}

module _ (image other : List ℕ) (k : ℕ) (same : (x : ℕ) → x < bodies_at k → get_or other x 0 ≡ get_or image x 0) where
  number2_same : (x : ℕ) → x + 1 < bodies_at k → number2 other x ≡ number2 image x
  unfolding number2
  number2_same x h = ap₂ (λ a c. a + 256 * c) (same x (omega arith)) (same (x + 1) h)

  number4_same : (x : ℕ) → x + 3 < bodies_at k → number4 other x ≡ number4 image x
  unfolding number4
  number4_same x h = ap₂ (λ a c. a + 65536 * c) (number2_same x (omega arith)) (number2_same (x + 2) (omega arith))

  says_same : (t : ℕ) → t < k + 2 → says_present other t ≡ says_present image t
  unfolding says_present
  says_same t h = ap (λ a. eqb a 1) (same (entry_at t + 2) (omega arith))

  body_same : (start column t : ℕ) → t ≤ k + 2 → body_at other start column t ≡ body_at image start column t
  unfolding body_at
  body_same start column t h = ap (λ n. start + n * column) (count_cong t (λ u l. says_same u (omega arith)))

  right_same : {m b : ℕ} → length other ≡ length image → Right m k b image → Right m k b other
  right_same {m} {b} size r = record {
    first = number2_same 0 (omega arith) ∙ r.first;
    second = number2_same 2 (omega arith) ∙ r.second;
    third = number2_same 4 (omega arith) ∙ r.third;
    fourth = number2_same 6 (omega arith) ∙ r.fourth;
    entries = record { at = λ t h. rw (says_same t h, body_same (bodies_at k) (column_length m b) t (omega arith)) (entry t h (r.entries.at t h)) };
    size = size ∙ r.size ∙ sym (body_same (bodies_at k) (column_length m b) (k + 2) (omega arith));
  }
    where
      entry : (t : ℕ) → t < k + 2 → {state o : ℕ} → Entry image t state o → Entry other t state o
      entry t h e = record {
        number = number2_same (entry_at t) (omega arith) ∙ e.number;
        marked = same (entry_at t + 2) (omega arith) ∙ e.marked;
        zero = same (entry_at t + 3) (omega arith) ∙ e.zero;
        begins = number4_same (entry_at t + 4) (omega arith) ∙ e.begins;
      }

  formed_same : {m b : ℕ} → Shape m k b → length other ≡ length image → Bytes other → (map : List Bool) → WellFormed m k b map image → WellFormed m k b map other
  formed_same shape size bytes map w =
      right_formed shape other bytes map (λ t h. formed_says shape map image w t h ∙ sym (says_same t h)) w.clear w.whole (right_same size (formed_right shape map image w))

gives_past : (rules more other : List Rule) (v : Verdict) → (Gives rules pass → Gives more v → Gives other v) → Gives (rules ++ more) v → Gives (rules ++ other) v
gives_past [] more other v h g = h refl g
gives_past (r ∷ rules) more other v h (inl p) = inl p
gives_past (r ∷ rules) more other v h (inr p) = inr (p.0, gives_past rules more other v (λ g. h (inr (p.0, g))) p.1)

-- the rules of a step: those that ask the header, and those after them, asked of another list with that header
abbrev header_rules : List ℕ → List Rule
header_rules image = bad_header image ∷ shape_rules (m_in image) (k_in image) (b_in image)

abbrev rest_rules : List ℕ → ℕ → List ℕ → List Rule
rest_rules image place other = malformed (m_in image) (k_in image) (b_in image) other ∷ past_the_end (k_in image) place ∷ []

pub steps_unread : StepsUnread
unfolding StepsUnread
steps_unread image other place r bytes others size same x = record { told = told _ x.told; finds = finds r.found r.next x.told x.finds }
  where
    first : m_in other ≡ m_in image
    first = number2_same image other (k_in image) same 0 (omega arith)

    second : k_in other ≡ k_in image
    second = number2_same image other (k_in image) same 2 (omega arith)

    third : b_in other ≡ b_in image
    third = number2_same image other (k_in image) same 4 (omega arith)

    fourth : number2 other 6 ≡ number2 image 6
    fourth = number2_same image other (k_in image) same 6 (omega arith)

    shape : Gives (header_rules image) pass → Shape (m_in image) (k_in image) (b_in image)
    shape g = passes_shape (m_in image) (k_in image) (b_in image) (passed_first g).1

    rest : (v : Verdict) → Gives (header_rules image) pass → Gives (rest_rules image place image) v → Gives (rest_rules image place other) v
    rest v g (inl p) = inl ((λ map w. p.0 map (formed_same other image (k_in image) (λ x h. sym (same x h)) (shape g) (sym size) bytes map w)), p.1)
    rest v g (inr p) = inr ((λ never. p.0 (λ map w. never map (formed_same image other (k_in image) same (shape g) size others map w))), p.1)

    told : (v : Verdict) → Gives (walk_rules image place) v → Gives (walk_rules other place) v
    told v g = rw (first, second, third, fourth, size) (gives_past (header_rules image) (rest_rules image place image) (rest_rules image place other) v (rest v) g)

    formed : {map : List Bool} → Gives (walk_rules image place) pass → WellFormed (m_in image) (k_in image) (b_in image) map image
        → WellFormed (m_in other) (k_in other) (b_in other) map other
    formed g w = rw (first, second, third) (formed_same image other (k_in image) same (shape (gives_passed (header_rules image) (rest_rules image place image) g).0) size others _ w)

    finds : (f : Result (Option Found) Refusal) (next : ℕ) → Gives (walk_rules image place) (verdict_of f) → Finds image place f next → Finds other place f next
    finds (Ok (Some r)) next g (y, moved) = (
      record {
        map = y.map;
        formed = formed g y.formed;
        order = y.order;
        inside = rw second y.inside;
        there = y.there;
        before = y.before;
        begins = rw (first, second, third) y.begins;
        size = rw (first, third) y.size;
      },
      moved,
    )
    finds (Ok None) next g (y, moved) = (record { map = y.map; formed = formed g y.formed; none = rw second y.none }, rw second moved)
    finds (Err f) next g y = y
