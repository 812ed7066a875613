-- Laws of `Exchanged`.
--   exchanged_one   one byte more exchanged
use mathlib.Core.Path.{◌≡◌, ap, ap₂, ◌∙◌}
use mathlib.Core.Logic.{◌≢◌}
use mathlib.Core.List.{List}
use Prim.Native.Nat.{ℕ, ◌+◌, ◌<◌}
use native.Mathlib.Omega.{arith}
use lib.ListN.{length, get_or, set, length-set}
use lib.Seq.{get_or-set_same, get_or-set_other}
use borrow.Author.Count.{below_more}
use Rattle.parity.specs.Xor.{◌⊕◌}
use Rattle.cells.specs.Runs.{Exchanged}

-- what stands in t with byte n of each of three runs set, one run after another; d is what the byte at `at` changes by
module _ (s t : List ℕ) (at one two n d : ℕ) (f : ℕ → ℕ) (low : at + n < one) (high : one + n < two) (room : two + n < length s) (p : Exchanged s t at one two n f) (change : d ≡ get_or t (at + n) 0 ⊕ f n) where
  abbrev once : List ℕ
  once = set t (one + n) (get_or t (one + n) 0 ⊕ d)

  abbrev twice : List ℕ
  twice = set once (two + n) (get_or t (two + n) 0 ⊕ d)

  abbrev all : List ℕ
  all = set twice (at + n) (f n)

  elsewhere : (q : ℕ) → q ≢ at + n → q ≢ one + n → q ≢ two + n → get_or all q 0 ≡ get_or t q 0
  elsewhere q x y z = get_or-set_other twice (at + n) q _ 0 x ∙ get_or-set_other once (two + n) q _ 0 z ∙ get_or-set_other t (one + n) q _ 0 y

  -- byte n of each run was not touched before
  fresh_at : get_or t (at + n) 0 ≡ get_or s (at + n) 0
  fresh_at = p.others (at + n) (λ h. omega arith) (λ h. absurd (omega arith)) (λ h. absurd (omega arith))

  fresh_one : get_or t (one + n) 0 ≡ get_or s (one + n) 0
  fresh_one = p.others (one + n) (λ h. omega arith) (λ h. omega arith) (λ h. absurd (omega arith))

  fresh_two : get_or t (two + n) 0 ≡ get_or s (two + n) 0
  fresh_two = p.others (two + n) (λ h. omega arith) (λ h. omega arith) (λ h. omega arith)

  changed : d ≡ get_or s (at + n) 0 ⊕ f n
  changed = change ∙ ap (λ (x : ℕ). x ⊕ f n) fresh_at

  at_once : get_or all (one + n) 0 ≡ get_or s (one + n) 0 ⊕ (get_or s (at + n) 0 ⊕ f n)
  at_once =
      get_or-set_other twice (at + n) (one + n) _ 0 (λ e. absurd (omega (arith, e)))
      ∙ get_or-set_other once (two + n) (one + n) _ 0 (λ e. absurd (omega (arith, e)))
      ∙ get_or-set_same t (one + n) _ 0 (omega (arith, p.size))
      ∙ ap₂ ◌⊕◌ fresh_one changed

  at_twice : get_or all (two + n) 0 ≡ get_or s (two + n) 0 ⊕ (get_or s (at + n) 0 ⊕ f n)
  at_twice =
      get_or-set_other twice (at + n) (two + n) _ 0 (λ e. absurd (omega (arith, e)))
      ∙ get_or-set_same once (two + n) _ 0 (simp length-set (omega (arith, p.size)))
      ∙ ap₂ ◌⊕◌ fresh_two changed

  pub exchanged_one : Exchanged s all at one two (n + 1) f
  exchanged_one = record {
    size = length-set twice (at + n) _ ∙ length-set once (two + n) _ ∙ length-set t (one + n) _ ∙ p.size;
    inside = below_more (λ (l : ℕ). get_or all (at + l) 0 ≡ f l) n
        (λ l h. elsewhere (at + l) (λ e. absurd (omega (arith, e))) (λ e. absurd (omega (arith, e))) (λ e. absurd (omega (arith, e))) ∙ p.inside l h)
        (get_or-set_same twice (at + n) _ 0 (simp length-set (omega (arith, p.size))));
    first = below_more (λ (l : ℕ). get_or all (one + l) 0 ≡ get_or s (one + l) 0 ⊕ (get_or s (at + l) 0 ⊕ f l)) n
        (λ l h. elsewhere (one + l) (λ e. absurd (omega (arith, e))) (λ e. absurd (omega (arith, e))) (λ e. absurd (omega (arith, e))) ∙ p.first l h)
        at_once;
    second = below_more (λ (l : ℕ). get_or all (two + l) 0 ≡ get_or s (two + l) 0 ⊕ (get_or s (at + l) 0 ⊕ f l)) n
        (λ l h. elsewhere (two + l) (λ e. absurd (omega (arith, e))) (λ e. absurd (omega (arith, e))) (λ e. absurd (omega (arith, e))) ∙ p.second l h)
        at_twice;
    others = λ q x y z.
        elsewhere q (λ e. absurd (omega (arith, e, x (omega (arith, e))))) (λ e. absurd (omega (arith, e, y (omega (arith, e))))) (λ e. absurd (omega (arith, e, z (omega (arith, e)))))
        ∙ p.others q (λ h. omega (arith, x h)) (λ h. omega (arith, y h)) (λ h. omega (arith, z h));
  }
