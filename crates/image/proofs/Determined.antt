-- The proofs of the statements in specs/Determined: an image says its numbers and its states, so that one shape, one map and one content of each
-- present column fit it; and a list of rules gives one verdict.
use mathlib.Core.Path.{◌≡◌, refl, sym, ap, ◌∙◌}
use mathlib.Core.Bool.{Bool, true, false}
use mathlib.Core.List.{List, [], ◌∷◌}
use Prim.Native.Nat.{ℕ, ◌+◌, ◌-◌, ◌<◌}
use native.Mathlib.Omega.{arith}
use lib.ListN.{length}
use lib.Seq.{ext_get_or}
use Rattle.parity.specs.Shape.{Shape, stripe_length}
use Rattle.parity.specs.Stripe.{byte}
use Rattle.parity.specs.Presence.{present, absences}
use Rattle.parity.proofs.Bytes.{stripe_ext}
use Rattle.parity.proofs.Columns.{same_column, places_same}
use Rattle.cells.proofs.Parts.{by_order}
use Rattle.std.specs.Prelude.{Ok, Err}
use Rattle.maps.specs.declared.Map.{Map}
use Rattle.inputs.specs.Rules.{stripe_length_differs}
use Rattle.maps.specs.Determined.{TrueMapOne}
use Rattle.refusals.proofs.Rules.{passes_not, passed_first, equal_of, refuse_one, gives_one, gives_passed}
use Rattle.maps.proofs.Determined.{true_map_one}
use Rattle.image.specs.declared.answers.Contents.{Contents}
use Rattle.image.specs.Reads.{m_in, k_in, b_in, contents_rules, read_rules, ContentsOf, Filled, ReadInto}
use Rattle.image.specs.Determined.{ImageOne, BodiesOne, ContentsTell, ContentsOne, ReadsOne}
use Rattle.image.proofs.Formed.{formed_right, formed_says, formed_body}
use Rattle.image.proofs.Verdicts.{formed_header, formed_passes}
use Rattle.image.proofs.Filling.{good_contents}

pub image_one : ImageOne
unfolding ImageOne present
image_one image m k b n l d map other s t w z =
    let r = formed_right s map image w in
    let q = formed_right t other image z in
    let e : k ≡ l = sym r.second ∙ q.second in (
      sym r.first ∙ q.first,
      e,
      sym r.third ∙ q.third,
      ext_get_or false map other (w.whole ∙ sym z.whole) (λ x _. by_order (present map x ≡ present other x) x (k + 2)
          (λ h. formed_says s map image w x h ∙ sym (formed_says t other image z x (omega arith)))
          (λ h. w.clear x h ∙ sym (z.clear x (omega arith)))),
    )

pub bodies_one : BodiesOne
unfolding BodiesOne
bodies_one image m k b map s w z = record {
  at = λ t h e. places_same m b w.stripe z.stripe t (λ j l. sym (formed_body s map image w t h e j l) ∙ formed_body s map image z t h e j l);
}

-- the numbers and the map determine an answer
contents_same : (m k b n l d : ℕ) (map other : Map) → m ≡ n → k ≡ l → b ≡ d → map ≡ other
    → ◌≡◌ {A = Contents} (record { shape = record { m = m; k = k; b = b }; map = map }) (record { shape = record { m = n; k = l; b = d }; map = other })
contents_same m k b n l d map other e f g h = rw (e, f, g, h) refl

pub contents_tell : ContentsTell
unfolding ContentsTell ImageOne
contents_tell image m k b map (Err f) s w c = absurd (passes_not f (gives_one (contents_rules image) _ _ (formed_passes (formed_header s w) s map w) c.told))
contents_tell image m k b map (Ok r) s w c =
    let g = good_contents image r c in
    let (first, second, third, places) = image_one image r.shape.m r.shape.k r.shape.b m k b r.map.places map g.shape s g.formed w in
    (r.map, ap Ok (contents_same _ _ _ _ _ _ r.map r.map first second third refl), places, ap (absences k) places)

-- two answers that the image says are one
pub answers_one : {image : List ℕ} {r q : Contents} → ContentsOf image (Ok r) → ContentsOf image (Ok q) → r ≡ q
unfolding ImageOne TrueMapOne
answers_one {image} {r} {q} x y =
    let g = good_contents image r x in
    let h = good_contents image q y in
    let (first, second, third, places) = image_one image r.shape.m r.shape.k r.shape.b q.shape.m q.shape.k q.shape.b r.map.places q.map.places g.shape h.shape g.formed h.formed in
    contents_same _ _ _ _ _ _ r.map q.map first second third (true_map_one r.map q.map x.says.truth y.says.truth places)

pub contents_one : ContentsOne
unfolding ContentsOne
contents_one image (Ok r) (Ok q) x y = ap Ok (answers_one x y)
contents_one image (Ok r) (Err g) x y = absurd (passes_not g (gives_one (contents_rules image) _ _ x.told y.told))
contents_one image (Err f) (Ok q) x y = absurd (passes_not f (gives_one (contents_rules image) _ _ y.told x.told))
contents_one image (Err f) (Err g) x y = ap Err (refuse_one f g (gives_one (contents_rules image) _ _ x.told y.told))

filled_one : {m k b : ℕ} {map : List Bool} {image before x y : List ℕ} → Shape m k b → length before ≡ stripe_length m k b
    → Filled m k b map image before x → Filled m k b map image before y → x ≡ y
unfolding BodiesOne
filled_one {m} {k} {b} {map} {image} {before} {x} {y} s e u v =
    stripe_ext m k b s.value.prime.big s.filled x y (u.size ∙ e) (v.size ∙ e) (λ l i t hl hi ht. go l i t hl hi ht (present map t) refl)
  where
    go : (l i t : ℕ) → l < b → i < m - 1 → t < k + 2 → (p : Bool) → present map t ≡ p → byte m b x l i t ≡ byte m b y l i t
    go l i t hl hi ht true p =
        sym (same_column m b u.formed.stripe x t (u.copied.at t ht p) l i hl hi)
        ∙ same_column m b u.formed.stripe v.formed.stripe t ((bodies_one image m k b map s u.formed v.formed).at t ht p) l i hl hi
        ∙ same_column m b v.formed.stripe y t (v.copied.at t ht p) l i hl hi
    go l i t hl hi ht false p = sym (same_column m b before x t (u.kept t ht p) l i hl hi) ∙ same_column m b before y t (v.kept t ht p) l i hl hi

-- what was read is what the contents say, and the stripe has its length
pub read_contents : {image before after : List ℕ} {r : Contents} → ReadInto image before after (Ok r)
    → ContentsOf image (Ok r) × (length before ≡ stripe_length r.shape.m r.shape.k r.shape.b)
read_contents {image} {before} u =
    let (first, second) = gives_passed (contents_rules image) (stripe_length_differs (m_in image) (k_in image) (b_in image) (length before) ∷ []) u.told in
    let own = u.fills.0.own in
    (record { told = first; says = u.fills.0 }, rw (own.first, own.second, own.third) (equal_of _ _ (passed_first second).0))

pub reads_one : ReadsOne
unfolding ReadsOne
reads_one image before x y (Ok r) (Ok q) u v =
    let (contents, size) = read_contents u in
    let same = answers_one contents (read_contents v).0 in
    (ap Ok same, filled_one (good_contents image r contents).shape size u.fills.1 (rw same v.fills.1))
reads_one image before x y (Ok r) (Err g) u v = absurd (passes_not g (gives_one (read_rules image (length before)) _ _ u.told v.told))
reads_one image before x y (Err f) (Ok q) u v = absurd (passes_not f (gives_one (read_rules image (length before)) _ _ v.told u.told))
reads_one image before x y (Err f) (Err g) u v =
    (ap Err (refuse_one f g (gives_one (read_rules image (length before)) _ _ u.told v.told)), u.fills ∙ sym v.fills)
