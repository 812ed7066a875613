-- Column after column copied from an image to a stripe.
--   put_body_lem, put_nothing     one column: its body is put there, or it is absent
--   copied_more               one column more
use mathlib.Core.Path.{◌≡◌, ap, ◌∙◌}
use mathlib.Core.Bool.{Bool, true, false, cond}
use mathlib.Core.List.{List}
use Prim.Native.Nat.{ℕ, ◌+◌, ◌*◌, ◌-◌, ◌≤◌, ◌<◌}
use native.Mathlib.Numerals.{add-one}
use native.Mathlib.Nat.{suc-mul}
use native.Mathlib.Omega.{arith}
use lib.ListN.{length, get_or}
use borrow.Author.Count.{below_more}
use borrow.Rule.Slice.PartMut.{put_mid}
use Rattle.parity.specs.Presence.{present}
use Rattle.cells.specs.Runs.{Put}
use Rattle.cells.proofs.Parts.{part, parts_end}
use Rattle.cells.proofs.Puts.{put_kept, put_same, put_taken}
use Rattle.image.specs.Entries.{offset_at, copied_byte, CopiedBelow}

module _ (image : List ℕ) (map : List Bool) (column : ℕ) where
  pub put_body_lem : (s y : List ℕ) (t from : ℕ) → present map t ≡ true → from ≡ offset_at image t → t * column + column ≤ length s → from + column ≤ length image
      → y ≡ part image from (from + column) → Put s (put_mid (t * column) (t * column + column - t * column) s y) (t * column) column (copied_byte image map column s t)
  unfolding copied_byte
  put_body_lem s y t from e q room there same = put_same (put_taken s y image (t * column) from column room there same) (λ j h. rw (e, q))

  pub put_nothing : (s : List ℕ) (t : ℕ) → present map t ≡ false → Put s s (t * column) column (copied_byte image map column s t)
  unfolding copied_byte
  put_nothing s t e = put_kept s (t * column) column _ (λ j h. rw e)

  pub copied_more : (before mid after : List ℕ) (n : ℕ) → CopiedBelow image map column n before mid → Put mid after (n * column) column (copied_byte image map column mid n)
      → CopiedBelow image map column (n + 1) before after
  unfolding copied_byte
  copied_more before mid after n c p =
      record {
        size = p.size ∙ c.size;
        at = below_more (λ t. (j : ℕ) → j < column → get_or after (t * column + j) 0 ≡ copied_byte image map column before t j) n
            (λ t h j l. p.before (t * column + j) (let x = parts_end column h in omega arith) ∙ c.at t h j l)
            (λ j l. p.inside j l ∙ ap (cond (present map n) (get_or image (offset_at image n + j) 0)) (c.later (n * column + j) (omega arith)));
        later = λ x h.
            let e : (n + 1) * column ≡ n * column + column = rw add-one (suc-mul n column) in
            p.after x (omega arith) ∙ c.later x (omega arith);
      }
