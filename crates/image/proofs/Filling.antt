-- What `read` answers, and what it leaves in the stripe.
--   Good, good_contents    what is known where the contents say a shape
--   read_length, read_good    what `read` promises, by the way out
use mathlib.Core.Path.{◌≡◌, refl, sym, ◌∙◌}
use mathlib.Core.Logic.{◌≢◌}
use mathlib.Core.Bool.{Bool}
use mathlib.Core.List.{List, [], ◌∷◌}
use Prim.Native.Nat.{ℕ, ◌+◌}
use lib.ListN.{length}
use Rattle.std.specs.Prelude.{Ok, Err}
use Rattle.parity.specs.Shape.{Shape, column_length, stripe_length}
use Rattle.parity.proofs.Columns.{places_same}
use Rattle.refusals.specs.declared.Refusal.TheVariants.{StripeLength}
use Rattle.refusals.specs.Refusals.{pass, Gives}
use Rattle.inputs.specs.Rules.{stripe_length_differs}
use Rattle.refusals.proofs.Rules.{gives_first, gives_next, passed_first, gives_after}
use Rattle.inputs.proofs.ShapeLaws.{passed_shape}
use Rattle.image.specs.declared.answers.Contents.{Contents}
use Rattle.image.specs.Format.{WellFormed}
use Rattle.image.specs.Reads.{m_in, k_in, b_in, malformed, contents_rules, OwnShape, ContentsOf, Filled, ReadInto}
use Rattle.image.specs.Entries.{copied_byte, CopiedBelow}
use Rattle.image.proofs.Formed.{formed_body}

pub record Good (image : List ℕ) (m k b : ℕ) (map : List Bool) : Type 0 where
  pub own : OwnShape image (record { m = m; k = k; b = b })
  pub passes : Gives (contents_rules image) pass
  pub shape : Shape m k b
  pub formed : WellFormed m k b map image

pub good_contents : (image : List ℕ) (r : Contents) → ContentsOf image (Ok r) → Good image r.shape.m r.shape.k r.shape.b r.map.places
good_contents image r c =
    let later = (passed_first c.told).1 in
    let (shape, _) = passed_shape (m_in image) (k_in image) (b_in image) (malformed (m_in image) (k_in image) (b_in image) image ∷ []) later in
    let own = c.says.own in
    record { own = own; passes = c.told; shape = rw (own.first, own.second, own.third) shape; formed = c.says.formed }

-- the rules of `read` are those of the contents, and then the stripe's length
module _ (image s : List ℕ) (r : Contents) (c : ContentsOf image (Ok r)) where
  pub read_length : length s ≢ stripe_length r.shape.m r.shape.k r.shape.b → ReadInto image s s (Err StripeLength)
  read_length f =
      let own = c.says.own in
      record {
        told = gives_after (contents_rules image) (stripe_length_differs (m_in image) (k_in image) (b_in image) (length s) ∷ []) _ c.told (gives_first (rw (own.first, own.second, own.third) at f));
        fills = refl;
      }

  -- what was copied is what the bodies hold
  filled : {after : List ℕ} → CopiedBelow image r.map.places (column_length r.shape.m r.shape.b) (r.shape.k + 2) s after
      → Filled r.shape.m r.shape.k r.shape.b r.map.places image s after
  unfolding copied_byte
  filled {after} copied =
      let g = good_contents image r c in
      let w = g.formed in
      record {
        formed = w;
        size = copied.size;
        copied = record {
          at = λ t h e. places_same r.shape.m r.shape.b w.stripe after t (λ j l. sym (formed_body g.shape r.map.places image w t h e j l) ∙ sym (rw e at (copied.at t h j l)));
        };
        kept = λ t h e. places_same r.shape.m r.shape.b s after t (λ j l. sym (rw e at (copied.at t h j l)));
      }

  pub read_good : {after : List ℕ} → length s ≡ stripe_length r.shape.m r.shape.k r.shape.b
      → CopiedBelow image r.map.places (column_length r.shape.m r.shape.b) (r.shape.k + 2) s after → ReadInto image s after (Ok r)
  read_good n copied =
      let own = c.says.own in
      record {
        told = gives_after (contents_rules image) (stripe_length_differs (m_in image) (k_in image) (b_in image) (length s) ∷ []) pass c.told (gives_next (λ f. f (rw (own.first, own.second, own.third) at n)) refl);
        fills = (c.says, filled copied);
      }
