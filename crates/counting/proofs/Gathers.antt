-- Laws of `Gathered`: what is or-ed into a run of bytes, block after block, and told of at the end.
--   gathered_next                  a second run after the first, which may overlap it
--   gathered_tells                 what was gathered into a clear run, or-ed together, tells of all of it
--   ored v y l n                   v and the bytes of y at l, 16 + l, … up to n * 16 + l, or-ed together
--   gathered_parts                 eight parts of 16 bytes, each or-ed into the run byte for byte
use mathlib.Core.Path.{◌≡◌, sym, ap, ◌∙◌}
use mathlib.Core.List.{List}
use Prim.Native.Nat.{ℕ, zero, suc, ◌+◌, ◌*◌, ◌-◌, ◌/◌, ◌%◌, ◌≤◌, ◌<◌}
use native.Mathlib.Nat.{le_refl}
use native.Mathlib.Omega.{arith}
use lib.Bits.{bit_or}
use lib.ListN.{length, get_or}
use Rattle.cells.specs.Runs.{Put, Tells}
use Rattle.cells.proofs.Parts.{by_order}
use Rattle.cells.proofs.Puts.{put_start}
use Rattle.cells.proofs.Tells.{or_left, or_right, or_none}
use Rattle.counting.specs.Gather.{Clear, Gathered}

-- after the first j, n from k on, which may overlap them, up to e
pub gathered_next : {x y z : List ℕ} (j k n e : ℕ) (f : ℕ → ℕ) → k ≤ j → j ≤ e → k + n ≡ e → Gathered x y j f → Gathered y z n (λ l. f (k + l)) → Gathered x z e f
gathered_next j k n e f h₁ h₂ h₃ p q = record {
  size = q.size ∙ p.size;
  none = λ clear.
      let u = q.none clear in
      let v = p.none u.0 in
      (v.0, λ l h. by_order (f l ≡ 0) l k (λ b. v.1 l (omega arith)) (λ b. let d : l ≡ k + (l - k) = omega arith in ap f d ∙ u.1 (l - k) (omega arith)));
  all = λ clear so. q.all (p.all clear (λ l h. so l (omega arith))) (λ l h. so (k + l) (omega arith));
}

pub gathered_tells : {x y : List ℕ} {r n : ℕ} {f : ℕ → ℕ} → Clear x → Gathered x y n f → Tells r (length y) (λ l. get_or y l 0) → Tells r n f
gathered_tells clear p t = record { none = λ e. (p.none (t.none e)).1; all = λ so. t.all (p.all clear so) }

unfoldable pub ored : ℕ → List ℕ → ℕ → ℕ → ℕ
ored v y l zero = bit_or v (get_or y l 0)
ored v y l (suc n) = bit_or (ored v y l n) (get_or y (suc n * 16 + l) 0)

module _ (v : ℕ) (y : List ℕ) (l : ℕ) where
  ored_none : (n : ℕ) → ored v y l n ≡ 0 → (v ≡ 0) × ((q : ℕ) → q ≤ n → get_or y (q * 16 + l) 0 ≡ 0)
  unfolding ored
  ored_none zero e = (or_left v (get_or y l 0) e, λ q h. let d : q * 16 + l ≡ l = omega arith in ap (λ (p : ℕ). get_or y p 0) d ∙ or_right v (get_or y l 0) e)
  ored_none (suc n) e =
      let x : ℕ = get_or y (suc n * 16 + l) 0 in
      let u = ored_none n (or_left (ored v y l n) x e) in (
        u.0,
        λ q h. by_order (get_or y (q * 16 + l) 0 ≡ 0) q (suc n) (λ b. u.1 q (omega arith)) (λ b.
            let d : q ≡ suc n = omega arith in
            ap (λ (p : ℕ). get_or y (p * 16 + l) 0) d ∙ or_right (ored v y l n) x e),
      )

  none_ored : (n : ℕ) → v ≡ 0 → ((q : ℕ) → q ≤ n → get_or y (q * 16 + l) 0 ≡ 0) → ored v y l n ≡ 0
  unfolding ored
  none_ored zero e so = or_none v (get_or y l 0) e (let d : l ≡ 0 * 16 + l = omega arith in ap (λ (p : ℕ). get_or y p 0) d ∙ so 0 (le_refl 0))
  none_ored (suc n) e so = or_none (ored v y l n) (get_or y (suc n * 16 + l) 0) (none_ored n e (λ q h. so q (omega arith))) (so (suc n) (le_refl (suc n)))

pub gathered_parts : {x z : List ℕ} (y : List ℕ) → length x ≡ 16 → Put x z 0 (length x) (λ l. ored (get_or x l 0) y l 7) → Gathered x z 128 (λ l. get_or y l 0)
gathered_parts {x} {z} y size p = record {
  size = p.size;
  none = λ e. (
    λ l h. (parts e l h).0,
    λ l h.
        let d : l ≡ l / 16 * 16 + l % 16 = omega arith in
        ap (λ (i : ℕ). get_or y i 0) d ∙ (parts e (l % 16) (omega arith)).1 (l / 16) (omega arith),
  );
  all = λ e so l h.
      let k : l < length x = omega (arith, p.size) in
      put_start p l k ∙ none_ored (get_or x l 0) y l 7 (e l k) (λ q b. so (q * 16 + l) (omega arith));
}
  where
    parts : Clear z → (l : ℕ) → l < length x → (get_or x l 0 ≡ 0) × ((q : ℕ) → q ≤ 7 → get_or y (q * 16 + l) 0 ≡ 0)
    parts e l h = ored_none (get_or x l 0) y l 7 (sym (put_start p l h) ∙ e l (omega (arith, p.size)))
