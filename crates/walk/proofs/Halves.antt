-- The halves of the buffer in the course of the walk: after n steps the rows come to are parted, and the others mixed still.
--   Half m δ n a f g      that, of a lane a and two columns f and g of that lane
--   Halves m b δ n w v    that, of every lane of the buffer v, for whatever columns stood mixed in w
--   …-none, …-more, …-all   both at the start, one step on, and at the end
use mathlib.Core.Path.{◌≡◌, refl, sym, ap₂, ◌∙◌, subst}
use mathlib.Core.Logic.{◌≢◌}
use mathlib.Core.List.{List}
use Prim.Native.Nat.{ℕ, zero, suc, ◌+◌, ◌*◌, ◌-◌, ◌%◌, ◌≤◌, ◌<◌}
use native.Mathlib.Omega.{arith}
use lib.ListN.{length}
use borrow.Author.Count.{below_more}
use Rattle.parity.specs.Xor.{◌⊕◌}
use Rattle.parity.specs.Shape.{column_length}
use Rattle.parity.specs.Equations.{Lane}
use Rattle.parity.specs.Stripe.{lane}
use Rattle.parity.proofs.Xor.{xor}
use Rattle.lines.specs.Lines.{real}
use Rattle.lines.proofs.Lines.{real_in, real_out}
use Rattle.walk.specs.Walk.{Column, Reaches, Stepped, Mixed, Walked}
use Rattle.walk.proofs.Rows.{visit, visit_start, visit_before, visit_apart, visit_real, visit_all}

-- row i is parted
abbrev Apart : Lane → (ℕ → ℕ) → (ℕ → ℕ) → ℕ → Type 0
Apart a f g i = (a i 0 ≡ f i) × (a i 1 ≡ g i)

-- row i is mixed, with row j of f in the second half
abbrev Joint : Lane → (ℕ → ℕ) → (ℕ → ℕ) → ℕ → ℕ → Type 0
Joint a f g j i = (a i 0 ≡ f i ⊕ g i) × (a i 1 ≡ f j ⊕ g i)

pub record Half (m δ n : ℕ) (a : Lane) (f g : ℕ → ℕ) : Type 0 where
  pub done : (x : ℕ) → x < n → Apart a f g (visit m δ (suc x))
  pub rest : (x : ℕ) → n ≤ x → x < m - 1 → Joint a f g (visit m δ x) (visit m δ (suc x))

pub record Halves (m b δ n : ℕ) (w v : List ℕ) : Type 0 where
  pub size : length v ≡ length w
  pub lanes : (f g : Column) → Mixed m b δ w f g → (l : ℕ) → l < b → Half m δ n (lane m b v l) (λ i. f i l) (λ i. g i l)

-- a step parts the row that it comes to
parts : (m from to : ℕ) (a c : Lane) (f g : ℕ → ℕ) → Stepped m from to a c → Joint a f g from to → real m a from 0 ≡ f from → Apart c f g to
parts m from to a c f g t (p, q) e = (t.first ∙ ap₂ ◌⊕◌ p second ∙ simp xor, second)
  where
    second : c to 1 ≡ g to
    second = t.second ∙ ap₂ ◌⊕◌ q e ∙ simp xor

module _ (m δ : ℕ) (big : 1 < m) (low : δ ≤ m) (ok : Reaches m δ) where
  module _ (f g : ℕ → ℕ) where
    half_none : (a : Lane) → ((i : ℕ) → i < m - 1 → Joint a f g ((i + δ) % m) i) → Half m δ 0 a f g
    half_none a h = record {
      done = λ x hx. absurd (omega arith);
      rest = λ x _ hx. subst (λ (j : ℕ). Joint a f g j (visit m δ (suc x))) (visit_before m δ big x low) (h (visit m δ (suc x)) (visit_real m δ big ok x hx));
    }

    -- what a step takes from the row before is f there
    taken : (n : ℕ) (a : Lane) → f (m - 1) ≡ 0 → n < m - 1 → Half m δ n a f g → real m a (visit m δ n) 0 ≡ f (visit m δ n)
    taken zero a z h q = subst (λ (i : ℕ). real m a i 0 ≡ f i) (sym (visit_start m δ big)) (real_out m a (m - 1) 0 (omega arith) ∙ sym z)
    taken (suc n) a z h q = real_in m a (visit m δ (suc n)) 0 (visit_real m δ big ok n (omega arith)) ∙ (q.done n (omega arith)).0

    half_more : (n : ℕ) (a c : Lane) → f (m - 1) ≡ 0 → n < m - 1 → Stepped m (visit m δ n) (visit m δ (suc n)) a c → Half m δ n a f g → Half m δ (n + 1) c f g
    half_more n a c z h t q = record {
      done = below_more (λ (x : ℕ). Apart c f g (visit m δ (suc x))) n
          (λ x hx. let o = still x (omega arith) (omega arith) in let d = q.done x hx in (o.0 ∙ d.0, o.1 ∙ d.1))
          (parts m (visit m δ n) (visit m δ (suc n)) a c f g t (q.rest n (omega arith) h) (taken n a z h q));
      rest = λ x hx hm. let o = still x hm (omega arith) in let d = q.rest x (omega arith) hm in (o.0 ∙ d.0, o.1 ∙ d.1);
    }
      where
        still : (x : ℕ) → x < m - 1 → x ≢ n → (c (visit m δ (suc x)) 0 ≡ a (visit m δ (suc x)) 0) × (c (visit m δ (suc x)) 1 ≡ a (visit m δ (suc x)) 1)
        still x hx ne = t.other (visit m δ (suc x)) (visit_real m δ big ok x hx) (λ e. ne (let d = visit_apart m δ big ok (suc x) (suc n) (omega arith) (omega arith) e in omega arith))

    half_all : (a : Lane) → Half m δ (m - 1) a f g → (i : ℕ) → i < m - 1 → Apart a f g i
    half_all a q i h = let (n, hn, e) = visit_all m δ big ok i h in subst (Apart a f g) e (q.done n hn)

  module _ (b : ℕ) {w : List ℕ} where
    pub halves_none : Halves m b δ 0 w w
    halves_none = record {
      size = refl;
      lanes = λ f g x l hl. half_none (λ i. f i l) (λ i. g i l) (lane m b w l) (λ i hi. (x.first i l hi hl, x.second i l hi hl));
    }

    pub halves_more : {n from to : ℕ} {u v : List ℕ} → n < m - 1 → from ≡ visit m δ n → to ≡ visit m δ (suc n) → length v ≡ length u
        → ((l : ℕ) → l < b → Stepped m from to (lane m b u l) (lane m b v l)) → Halves m b δ n w u → Halves m b δ (n + 1) w v
    halves_more {n} {from} {to} {u} {v} h e₁ e₂ size t q = record {
      size = size ∙ q.size;
      lanes = λ f g x l hl. half_more (λ i. f i l) (λ i. g i l) n (lane m b u l) (lane m b v l) (x.last l hl) h (rw (← e₁, ← e₂) (t l hl)) (q.lanes f g x l hl);
    }

    pub halves_all : {v : List ℕ} → length w ≡ 2 * column_length m b → Halves m b δ (m - 1) w v → Walked m b δ w v
    halves_all {v} whole q = record {
      size = q.size;
      parts = λ f g x. record {
        size = q.size ∙ whole;
        first = λ i l hi hl. (half_all (λ i. f i l) (λ i. g i l) (lane m b v l) (q.lanes f g x l hl) i hi).0;
        second = λ i l hi hl. (half_all (λ i. f i l) (λ i. g i l) (lane m b v l) (q.lanes f g x l hl) i hi).1;
      };
    }
