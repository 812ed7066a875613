-- The proofs of the statements in specs/RoundTrips. What was written is a well-formed image of the given shape and map, and one shape, one map and one content
-- of each present column fit it. What was read agrees with the image's stripe in the present columns, so that both have the same image.
use mathlib.Core.Path.{◌≡◌, refl, sym, ap, ◌∙◌}
use mathlib.Core.Bool.{Bool, true, false, true≢false}
use mathlib.Core.List.{List, [], ◌∷◌}
use Prim.Native.Nat.{ℕ, ◌+◌, ◌≤◌, ◌<◌}
use lib.ListN.{length, take, drop}
use lib.Seq.{take_at}
use Rattle.parity.specs.Presence.{present, differs, Agrees}
use Rattle.parity.specs.Theorems.{AbsentUnread}
use Rattle.parity.proofs.Theorems.{absent_unread}
use Rattle.std.specs.Prelude.{Result, Ok, Err}
use Rattle.refusals.specs.declared.Refusal.{Refusal}
use Rattle.refusals.specs.Refusals.{pass}
use Rattle.inputs.specs.Rules.{stripe_length_differs}
use Rattle.maps.specs.Absent.{Stray}
use Rattle.refusals.proofs.Rules.{gives_next, passes_not, gives_one, gives_after, gives_passed}
use Rattle.image.specs.declared.answers.Contents.{Contents}
use Rattle.image.specs.Format.{image_of, WellFormed}
use Rattle.image.specs.Reads.{m_in, k_in, b_in, contents_rules, read_rules, ContentsOf, Filled, ReadInto}
use Rattle.image.specs.Determined.{BodiesOne}
use Rattle.image.proofs.Verdicts.{formed_header, formed_passes}
use Rattle.image.proofs.Filling.{good_contents}
use Rattle.image.proofs.Determined.{bodies_one, answers_one, read_contents}
use Rattle.image_writer.specs.Writes.{short_buffer, marked_rules, write_rules, Leaves, Writes}
use Rattle.image_writer.specs.Determined.{ImageUnread}
use Rattle.image_writer.specs.RoundTrips.{WrittenReads, ReadWrites}
use Rattle.image_writer.proofs.Verdicts.{Marked, marked_given, write_passes}
use Rattle.image_writer.proofs.Determined.{image_unread}

-- what was written begins with the image
taken : (image before after : List ℕ) {n : ℕ} → Leaves image before after (Ok n) → take n after ≡ image
taken image before after {n} (size, text) = ap (take n) text ∙ take_at image (drop n before) n (sym size)

-- no place past the columns is present
absent : (k : ℕ) (map : List Bool) → (Stray k map → ⊥) → (t : ℕ) → k + 2 ≤ t → present map t ≡ false
absent k map stray t h = go (present map t) refl
  where
    go : (p : Bool) → present map t ≡ p → present map t ≡ false
    go true e = absurd (stray (record { at = t; above = h; there = e }))
    go false e = e

pub written_reads : WrittenReads
unfolding WrittenReads BodiesOne AbsentUnread
written_reads m k b n map s before after blank filled r st p size read = go r read
  where
    f : Marked m k b map (length s)
    f = marked_given m k b map (length s) (gives_passed (marked_rules m k b map (length s)) (short_buffer (image_of m k b map.places s) (length before) ∷ []) p.told).0

    w : WellFormed m k b map.places (take n after)
    w = record { stripe = s; sized = st; same = taken (image_of m k b map.places s) before after p.left; whole = f.truth.whole; clear = absent k map.places f.clear }

    go : (r : Result Contents Refusal) → ReadInto (take n after) blank filled r
        → (r ≡ Ok (record { shape = record { m = m; k = k; b = b }; map = map })) × Agrees m k b map.places s filled
        × ((t : ℕ) → t < k + 2 → present map.places t ≡ false → differs m b blank filled t ≡ false)
    go (Ok r) read =
        let (contents, _) = read_contents read in
        let h = formed_header f.shape w in
        let same : ContentsOf (take n after) (Ok (record { shape = record { m = m; k = k; b = b }; map = map })) = record {
          told = contents.told;
          says = record { own = record { first = h.first; second = h.second; third = h.third }; formed = w; truth = f.truth };
        } in
        let e = answers_one contents same in
        let q : Filled m k b map.places (take n after) blank filled = rw e at read.fills.1 in
        (ap Ok e, (absent_unread m k b map.places s q.formed.stripe (bodies_one (take n after) m k b map.places f.shape w q.formed) filled).1 q.copied, q.kept)
    go (Err e) read =
        let h = formed_header f.shape w in
        absurd (passes_not e (gives_one (read_rules (take n after) (length blank)) _ _ (gives_after (contents_rules (take n after)) (stripe_length_differs (m_in (take n after)) (k_in (take n after)) (b_in (take n after)) (length blank) ∷ []) pass (formed_passes h f.shape map.places w) (gives_next (λ d. d (rw (h.first, h.second, h.third) at size)) refl)) read.told))

pub read_writes : ReadWrites
unfolding ReadWrites ImageUnread
read_writes image blank filled before after r w read room p =
    let (says, fills) = read.fills in
    let (contents, size) = read_contents read in
    let whole = fills.size ∙ size in
    let same = fills.formed.same ∙ image_unread r.shape.m r.shape.k r.shape.b r.map.places fills.formed.stripe filled (whole ∙ sym fills.formed.sized.whole) fills.copied in
    go same (record { shape = (good_contents image r contents).shape; stripe = whole; truth = says.truth; clear = λ stray. true≢false (sym stray.there ∙ says.formed.clear stray.at stray.above) }) w p
  where
    go : image ≡ image_of r.shape.m r.shape.k r.shape.b r.map.places filled → Marked r.shape.m r.shape.k r.shape.b r.map (length filled) → (w : Result ℕ Refusal)
        → Writes r.shape.m r.shape.k r.shape.b r.map filled before after w → (w ≡ Ok (length image)) × (take (length image) after ≡ image)
    go same f (Ok n) p =
        let size = p.left.0 ∙ ap length (sym same) in
        (ap Ok size, ap (λ x. take x after) (sym size) ∙ taken (image_of r.shape.m r.shape.k r.shape.b r.map.places filled) before after p.left ∙ sym same)
    go same f (Err x) p =
        absurd (passes_not x (gives_one (write_rules r.shape.m r.shape.k r.shape.b r.map filled (length before)) _ _ (write_passes r.shape.m r.shape.k r.shape.b r.map filled before f (rw (← same) room)) p.told))
