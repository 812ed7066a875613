-- Laws of `Gives`: which verdict a list of rules gives.
--   gives_first, gives_next     the first rule's condition holds; it does not, and the others give the verdict
--   passed_first, equal_of      a list of rules passes: the first rule's condition fails, and the others pass
--   passes_not, refuse_one      a pass is no refusal, and one refusal is no other
--   gives_one, not_both         a list of rules gives one verdict, and so it does not pass and refuse
--   refused_by, done_by         an answer whose verdict is a refusal is that refusal; one that hands nothing out and passes is done
--   answer_refused, answer_done   so it is where the rules that give its verdict refuse, or pass
--   both_answers                of two answers that one list of rules gives both pass, or both are refused with one refusal
--   gives_refused, gives_after  of two lists in a row: the first refuses; it passes, and the second gives the verdict
--   gives_instead               of two lists in a row another stands for the second
--   last_rule                   the last rule refuses, with its own refusal, where its condition holds
--   never_number                a number that no rule brings whose condition can hold is not given
--   rules_before                of two lists in a row the first passes where none of its rules brings the refusal that is given
--   handed_on                       a `?` hands on the refusal that it met
--   gives_passed, gives_rest    two lists in a row pass: each does; the first passes: the second gives the verdict of both
--   first_not, first_one        of items that each pass none is the first that is refused; and there is one first, refused with one refusal
--   each_instead, first_instead   items are asked other rules that give the same verdicts
use mathlib.Core.Path.{◌≡◌, refl, sym, ap, subst, ◌∙◌}
use mathlib.Core.Logic.{◌≢◌, ◌⊎◌, inl, inr, by_cases}
use mathlib.Core.List.{List, [], ◌∷◌, ◌++◌}
use Prim.Native.Nat.{ℕ, ◌<◌}
use Rattle.std.specs.Prelude.{Result, Ok, Err, IsErrAnd, ⊤}
use native.Mathlib.Decide.{ℕ_discrete, dec_lt}
use native.Mathlib.Omega.{arith}
use Rattle.refusals.specs.declared.Refusal.{Refusal}
use Rattle.refusals.specs.Refusals.{number_of, Verdict, pass, refuse, verdict_of, answer_number, Rule, Gives, EachPasses, FirstRefused}

pub passes_not : (f : Refusal) → pass ≡ refuse f → ⊥
passes_not f e = let z : ◌≡◌ {A = ℕ} 0 1 = cc in omega arith

pub refuse_one : (f g : Refusal) → refuse f ≡ refuse g → f ≡ g
refuse_one f g e = cc

-- these three are stated in the form to which `Gives (rule ∷ rules) v` computes
pub gives_first : {C R : Type 0} {f : Refusal} → C → (C × (refuse f ≡ refuse f)) ⊎ R
gives_first h = inl (h, refl)

pub gives_next : {C R : Type 0} {v w : Verdict} → (C → ⊥) → R → (C × (v ≡ w)) ⊎ ((C → ⊥) × R)
gives_next n g = inr (n, g)

pub passed_first : {C R : Type 0} {f : Refusal} → (C × (pass ≡ refuse f)) ⊎ ((C → ⊥) × R) → (C → ⊥) × R
passed_first (inl p) = absurd (passes_not _ p.1)
passed_first (inr p) = p

-- where a rule refuses numbers that differ and is not met, they are equal
pub equal_of : (x y : ℕ) → (x ≢ y → ⊥) → x ≡ y
equal_of x y n = by_cases (ℕ_discrete x y) (λ e. e) (λ f. absurd (n f))

pub gives_one : (rules : List Rule) (v w : Verdict) → Gives rules v → Gives rules w → v ≡ w
gives_one [] v w p q = p ∙ sym q
gives_one (r ∷ rules) v w (inl p) (inl q) = p.1 ∙ sym q.1
gives_one (r ∷ rules) v w (inl p) (inr q) = absurd (q.0 p.0)
gives_one (r ∷ rules) v w (inr p) (inl q) = absurd (p.0 q.0)
gives_one (r ∷ rules) v w (inr p) (inr q) = gives_one rules v w p.1 q.1

-- ---- the answer by its verdict

pub refused_by : {T : Type 0} (r : Result T Refusal) {f : Refusal} → verdict_of r ≡ refuse f → r ≡ Err f
refused_by (Ok x) {f} e = absurd (passes_not f e)
refused_by (Err g) {f} e = ap Err (refuse_one g f e)

pub done_by : (r : Result ⊤ Refusal) → verdict_of r ≡ pass → r ≡ Ok tt
done_by (Ok _) e = refl
done_by (Err f) e = absurd (passes_not f (sym e))

module _ (rules : List Rule) where
  pub not_both : (f : Refusal) → Gives rules pass → Gives rules (refuse f) → ⊥
  not_both f passed refused = passes_not f (gives_one rules _ _ passed refused)

  pub answer_refused : {T : Type 0} (r : Result T Refusal) {f : Refusal} → Gives rules (verdict_of r) → Gives rules (refuse f) → r ≡ Err f
  answer_refused r told refused = refused_by r (gives_one rules _ _ told refused)

  pub answer_done : (r : Result ⊤ Refusal) → Gives rules (verdict_of r) → Gives rules pass → r ≡ Ok tt
  answer_done r told passed = done_by r (gives_one rules _ _ told passed)

  pub both_answers : {T : Type 0} (A : Result T Refusal → Result T Refusal → Type 0) → ((x y : T) → A (Ok x) (Ok y)) → ((f : Refusal) → A (Err f) (Err f))
      → (r q : Result T Refusal) → Gives rules (verdict_of r) → Gives rules (verdict_of q) → A r q
  both_answers A passed refused (Ok x) (Ok y) g h = passed x y
  both_answers A passed refused (Ok x) (Err f) g h = absurd (not_both f g h)
  both_answers A passed refused (Err f) (Ok y) g h = absurd (not_both f h g)
  both_answers A passed refused (Err f) (Err e) g h = subst (λ e. A (Err f) (Err e)) (refuse_one f e (gives_one rules _ _ g h)) (refused f)

-- ---- two lists in a row

pub gives_refused : (rules more : List Rule) (f : Refusal) → Gives rules (refuse f) → Gives (rules ++ more) (refuse f)
gives_refused [] more f g = absurd (passes_not f (sym g))
gives_refused (r ∷ rules) more f (inl p) = inl p
gives_refused (r ∷ rules) more f (inr p) = inr (p.0, gives_refused rules more f p.1)

pub gives_after : (rules more : List Rule) (v : Verdict) → Gives rules pass → Gives more v → Gives (rules ++ more) v
gives_after [] more v g h = h
gives_after (r ∷ rules) more v (inl p) h = absurd (passes_not r.refusal p.1)
gives_after (r ∷ rules) more v (inr p) h = inr (p.0, gives_after rules more v p.1 h)

-- what a `?` hands on is the refusal that it met
pub handed_on : {T : Type 0} (r : Result T Refusal) {f : Refusal} → IsErrAnd r (λ g. g ≡ f) → r ≡ Err f
handed_on (Ok x) h = absurd h
handed_on (Err g) h = ap Err h

pub gives_passed : (rules more : List Rule) → Gives (rules ++ more) pass → Gives rules pass × Gives more pass
gives_passed [] more g = (refl, g)
gives_passed (r ∷ rules) more (inl p) = absurd (passes_not r.refusal p.1)
gives_passed (r ∷ rules) more (inr p) = let (first, second) = gives_passed rules more p.1 in (inr (p.0, first), second)

pub gives_rest : (rules more : List Rule) (v : Verdict) → Gives rules pass → Gives (rules ++ more) v → Gives more v
gives_rest [] more v g h = h
gives_rest (r ∷ rules) more v (inl p) h = absurd (passes_not r.refusal p.1)
gives_rest (r ∷ rules) more v (inr p) (inl q) = absurd (p.0 q.0)
gives_rest (r ∷ rules) more v (inr p) (inr q) = gives_rest rules more v p.1 q.1

-- stated in the form to which `Gives (rule ∷ []) (refuse f)` computes
pub last_rule : {C : Type 0} {f g : Refusal} → (C × (refuse f ≡ refuse g)) ⊎ ((C → ⊥) × (refuse f ≡ pass)) → C × (f ≡ g)
last_rule {f = f} {g = g} (inl c) = (c.0, refuse_one f g c.1)
last_rule {f = f} (inr c) = absurd (passes_not f (sym c.1))

-- of two lists in a row another stands for the second
pub gives_instead : (rules more other : List Rule) (v : Verdict) → (Gives more v → Gives other v) → Gives (rules ++ more) v → Gives (rules ++ other) v
gives_instead [] more other v h g = h g
gives_instead (r ∷ rules) more other v h (inl p) = inl p
gives_instead (r ∷ rules) more other v h (inr p) = inr (p.0, gives_instead rules more other v h p.1)

-- where each rule with that number has a condition that does not hold
abbrev pub Never : ℕ → List Rule → Type 0
Never n [] = Unit {0}
Never n (r ∷ rules) = (number_of r.refusal ≡ n → r.condition → ⊥) × Never n rules

pub never_number : (n : ℕ) (rules : List Rule) (v : Verdict) → 0 < n → Never n rules → Gives rules v → answer_number v ≢ n
never_number n [] v some never g e = let z : 0 ≡ n = sym (ap answer_number g) ∙ e in omega arith
never_number n (r ∷ rules) v some never (inl p) e = never.0 (sym (ap answer_number p.1) ∙ e) p.0
never_number n (r ∷ rules) v some never (inr p) e = never_number n rules v some never.1 p.1 e

pub rules_before : (rules more : List Rule) (f : Refusal) → Never (number_of f) rules → Gives (rules ++ more) (refuse f) → Gives rules pass × Gives more (refuse f)
rules_before [] more f never g = (refl, g)
rules_before (r ∷ rules) more f never (inl p) = absurd (never.0 (ap number_of (refuse_one r.refusal f (sym p.1))) p.0)
rules_before (r ∷ rules) more f never (inr p) = let (first, second) = rules_before rules more f never.1 p.1 in (inr (p.0, first), second)

-- ---- items

module _ (rules : ℕ → List Rule) (n : ℕ) where
  pub first_not : {item : ℕ} {f : Refusal} → EachPasses rules n → FirstRefused rules n item f → ⊥
  first_not {item} {f} each first = passes_not f (gives_one (rules item) _ _ (each item first.inside) first.refused)

  pub first_one : {item other : ℕ} {f g : Refusal} → FirstRefused rules n item f → FirstRefused rules n other g → (item ≡ other) × (f ≡ g)
  first_one {item} {other} {f} {g} x y = (same, refuse_one f g (gives_one (rules item) _ _ x.refused (rw same y.refused)))
    where
      same : item ≡ other
      same = elim (dec_lt item other) [
        | yes l ↦ absurd (passes_not f (gives_one (rules item) _ _ (y.before item l) x.refused))
        | no l ↦ elim (dec_lt other item) [
          | yes h ↦ absurd (passes_not g (gives_one (rules other) _ _ (x.before other h) y.refused))
          | no h ↦ omega arith
        ]
      ]

module _ (rules others : ℕ → List Rule) (n : ℕ) (same : (i : ℕ) → i < n → (v : Verdict) → Gives (rules i) v → Gives (others i) v) where
  pub each_instead : EachPasses rules n → EachPasses others n
  each_instead each i h = same i h pass (each i h)

  pub first_instead : {item : ℕ} {f : Refusal} → FirstRefused rules n item f → FirstRefused others n item f
  first_instead {item} {f} x = record { inside = x.inside; before = λ i h. same i (omega (arith, x.inside)) pass (x.before i h); refused = same item x.inside (refuse f) x.refused }
