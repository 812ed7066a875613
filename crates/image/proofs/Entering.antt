-- Entry after entry of the contents.
--   walked_none                      before the first entry
--   walked_present, walked_absent    one entry more, that is right
--   walked_most                      where the next body begins, at the most
use mathlib.Core.Path.{◌≡◌, refl, sym, ap, ◌∙◌}
use mathlib.Core.Bool.{true, false, cond}
use mathlib.Core.List.{List}
use Prim.Native.Nat.{ℕ, ◌+◌, ◌*◌, ◌≤◌, ◌<◌}
use native.Mathlib.Numerals.{add-one}
use native.Mathlib.Nat.{suc-mul, zero-mul, add-zero, mul-le-mul}
use native.Mathlib.Omega.{arith}
use lib.ListN.{set, replicate, length-set}
use borrow.Author.Count.{below_more}
use borrow.Author.Tests.{eq-eqb, ne_eqb}
use Rattle.parity.specs.Sum.{count}
use Rattle.parity.specs.Presence.{present}
use Rattle.parity.proofs.Count.{count_most}
use Rattle.maps.proofs.Truth.{put_present}
use Rattle.maps.proofs.Presence.{new_absent}
use Rattle.image.specs.declared.table.Table.{Table}
use Rattle.image.specs.Entries.{says_present, RightEntry, body_at, RightEntries, Reached}

module _ (image : List ℕ) (start column : ℕ) where
  body_none : body_at image start column 0 ≡ start
  unfolding body_at count
  body_none = rw zero-mul (add-zero start)

  body_present : (t : ℕ) → says_present image t ≡ true → body_at image start column (t + 1) ≡ body_at image start column t + column
  unfolding body_at count
  body_present t e = rw (add-one, e, suc-mul) (omega arith)

  body_absent : (t : ℕ) → says_present image t ≡ false → body_at image start column (t + 1) ≡ body_at image start column t
  unfolding body_at count
  body_absent t e = rw (add-one, e)

  pub walked_none : Reached image start column 0 (record { places = replicate 129 false; next = start })
  walked_none = record {
    entries = record { at = λ t h. absurd (omega arith) };
    next = sym body_none;
    whole = refl;
    below = λ t h. absurd (omega arith);
    clear = λ t h. new_absent 129 t;
  }

  module _ (t : ℕ) (w : Table) (r : Reached image start column t w) where
    pub walked_most : t ≤ 129 → column ≤ 516096 → w.next ≤ start + 66576384
    unfolding body_at
    walked_most few short =
        let most = count_most t (says_present image) in
        let product : count t (says_present image) * column ≤ 129 * 516096 = mul-le-mul {n₂ = 129} {m₂ = 516096} (omega arith) short in
        omega (arith, r.next)

    entries_more : RightEntry image t w.next → RightEntries image start column (t + 1)
    entries_more e = record {
      at = below_more (λ u. RightEntry image u (body_at image start column u)) t r.entries.at (rw r.next at e);
    }

    pub walked_present : t < 129 → says_present image t ≡ true → RightEntry image t w.next
        → Reached image start column (t + 1) (record { places = set w.places t true; next = w.next + column })
    walked_present h s e =
        let inside = r.whole in
        let put = put_present w.places t (omega arith) true in
        record {
          entries = entries_more e;
          next = ap (λ x. x + column) r.next ∙ sym (body_present t s);
          whole = rw length-set r.whole;
          below = below_more (λ u. present (set w.places t true) u ≡ says_present image u) t
              (λ u l. put u ∙ ap (λ p. cond p true (present w.places u)) (ne_eqb u t (λ q. omega arith)) ∙ r.below u l)
              (put t ∙ ap (λ p. cond p true (present w.places t)) (eq-eqb t t refl) ∙ sym s);
          clear = λ u l. put u ∙ ap (λ p. cond p true (present w.places u)) (ne_eqb u t (λ q. omega arith)) ∙ r.clear u (omega arith);
        }

    pub walked_absent : says_present image t ≡ false → RightEntry image t w.next → Reached image start column (t + 1) w
    walked_absent s e = record {
      entries = entries_more e;
      next = r.next ∙ sym (body_absent t s);
      whole = r.whole;
      below = below_more (λ u. present w.places u ≡ says_present image u) t r.below (r.clear t (omega arith) ∙ sym s);
      clear = λ u l. r.clear u (omega arith);
    }
