-- What was found of lines.
--   found_begin, found_clear   of no line, and of lines that all are zero
--   found_same, found_more     of one line more, which is zero, or breaks
--   found_over, found_after    of more lines after the first, which are zero, or of which some break
--   found_enough               where enough were found, the others need not be looked at
--   found_cong, found_as       of the same bytes, and the same numbers, by another name
--   found_all                  how many there are, where so many would have been enough
--   found_none, none_found     none was found exactly where all lines are zero
use mathlib.Core.Path.{◌≡◌, sym, ap, ap₂, ◌∙◌, subst}
use Prim.Native.Nat.{ℕ, ◌+◌, ◌≤◌, ◌<◌}
use native.Mathlib.Decide.{dec_lt}
use native.Mathlib.Omega.{arith}
use Rattle.cells.specs.Runs.{Tells}
use Rattle.counting.specs.declared.testing.Broken.{Broken}
use Rattle.counting.specs.Counting.{breaking, Found}
use Rattle.counting.proofs.Breaking.{breaking_same, breaking_more, breaking_next, breaking_cong, breaking_zero, zero_breaking}

-- so many, of which the last is that line
abbrev pub seen : ℕ → ℕ → Broken
seen c l = record { count = c; last = l }

module _ (enough b : ℕ) (f : ℕ → ℕ → ℕ) where
  pub found_clear : (n : ℕ) → ((i l : ℕ) → i < n → l < b → f l i ≡ 0) → Found enough n b f (seen 0 0)
  found_clear n so = record { most = omega arith; counted = λ _. sym (zero_breaking b f n so); there = λ h. absurd (omega arith) }

  pub found_begin : Found enough 0 b f (seen 0 0)
  found_begin = found_clear 0 (λ i l h. absurd (omega arith))

  module _ (c last i : ℕ) (p : Found enough i b f (seen c last)) where
    pub found_after : (n d l : ℕ) → (d ≡ 0 → ⊥) → Found enough n b (λ l j. f l (i + j)) (seen d l) → Found enough (i + n) b f (seen (c + d) (i + l))
    found_after n d l ne q = record {
      most = omega (arith, p.most, q.most);
      counted = λ h. ap₂ ◌+◌ (p.counted (omega arith)) (q.counted (omega arith)) ∙ sym (breaking_next i n b f);
      there = λ _. let t = q.there (omega arith) in (omega (arith, t.0), t.1);
    }

    pub found_over : (n d l : ℕ) → d ≡ 0 → Found enough n b (λ l j. f l (i + j)) (seen d l) → Found enough (i + n) b f (seen c last)
    found_over n d l e q = record {
      most = omega (arith, p.most);
      counted = λ h. p.counted h ∙ omega (arith, breaking_next i n b f, q.counted (omega arith));
      there = λ h. let t = p.there h in (omega (arith, t.0), t.1);
    }

    module _ (o : ℕ) (t : Tells o b (λ l. f l i)) where
      pub found_same : o ≡ 0 → Found enough (i + 1) b f (seen c last)
      found_same e = record {
        most = omega (arith, p.most);
        counted = λ h. p.counted h ∙ sym (breaking_same b f o i t e);
        there = λ h. let q = p.there h in (omega (arith, q.0), q.1);
      }

      pub found_more : (o ≡ 0 → ⊥) → Found enough (i + 1) b f (seen (c + 1) i)
      found_more ne = record {
        most = omega (arith, p.most);
        counted = λ h. ap (λ (x : ℕ). x + 1) (p.counted (omega arith)) ∙ sym (breaking_more b f o i t ne);
        there = λ _. (omega arith, λ so. ne (t.all so));
      }

pub found_as : {enough n b c d x y : ℕ} {f : ℕ → ℕ → ℕ} → c ≡ d → x ≡ y → Found enough n b f (seen d y) → Found enough n b f (seen c x)
found_as {enough} {n} {b} {f = f} e q p = subst (Found enough n b f) (ap₂ seen (sym e) (sym q)) p

module _ {enough n b : ℕ} {f : ℕ → ℕ → ℕ} {r : Broken} (p : Found enough n b f r) where
  pub found_enough : (x : ℕ) → enough ≤ r.count → n ≤ x → Found enough x b f r
  found_enough x h l = record {
    most = omega (arith, p.most);
    counted = λ k. absurd (omega arith);
    there = λ k. let q = p.there k in (omega (arith, q.0), q.1);
  }

  pub found_cong : {h : ℕ → ℕ → ℕ} → ((i l : ℕ) → i < n → l < b → f l i ≡ h l i) → Found enough n b h r
  found_cong same = record {
    most = p.most;
    counted = λ k. p.counted k ∙ breaking_cong n b same;
    there = λ k. let q = p.there k in (q.0, λ so. q.1 (λ l hl. same r.last l q.0 hl ∙ so l hl));
  }

  pub found_all : n < enough → r.count ≡ breaking n b f
  found_all h = p.counted (omega (arith, p.most))

  pub found_none : 0 < enough → r.count ≡ 0 → (i l : ℕ) → i < n → l < b → f l i ≡ 0
  found_none h e = breaking_zero b f n (sym (p.counted (omega arith)) ∙ e)

  pub none_found : ((i l : ℕ) → i < n → l < b → f l i ≡ 0) → r.count ≡ 0
  none_found so = elim (dec_lt 0 r.count) [ yes k ↦ let q = p.there k in absurd (q.1 (λ l hl. so r.last l q.0 hl)) | no k ↦ omega arith ]
