-- Each promise determines answer and buffers: the proofs of the statements in specs/Determined.
-- A list of rules gives one verdict. Where it passes, the answer speaks of valid stripes, of which the distance of three leaves one.
use mathlib.Core.Path.{◌≡◌, refl, sym, ap, ap₂, ◌∙◌}
use mathlib.Core.Logic.{◌≢◌, inl, inr, by_cases, ◌↔◌}
use mathlib.Core.Bool.{false, true≢false}
use mathlib.Core.List.{List, [], ◌∷◌}
use Prim.Native.Nat.{ℕ, ◌+◌, ◌<◌, ◌≤◌}
use native.Mathlib.Decide.{dec_lt}
use native.Mathlib.Omega.{arith}
use Rattle.parity.specs.Shape.{Shape, stripe_length, bench_length}
use Rattle.parity.specs.Stripe.{byte, Valid}
use Rattle.parity.specs.Presence.{differs, absences, Agrees, AgreesBut}
use Rattle.parity.proofs.Columns.{same_column}
use Rattle.parity.proofs.Change.{by_cell, data_stays, same_data_amounts, amounts_back, amounts_both}
use Rattle.parity.proofs.InOrder.{order_one}
use Rattle.parity.proofs.Stripes.{stripe_determined}
use Rattle.parity.proofs.Theorems.{frame, served, at_most_one, absent_unread}
use Rattle.inputs.specs.Rules.{too_many_absent, contradicted, stripe_rules, lent_rules, gap_rules, restore_rules, show_rules, list_rules}
use Rattle.refusals.proofs.Rules.{passes_not, refuse_one, gives_one, passed_first, gives_passed, gives_instead, first_not, first_one}
use Rattle.inputs.proofs.Stripe.{stripe_given}
use Rattle.std.specs.Prelude.{Result, Ok, Err, ⊤}
use Rattle.refusals.specs.declared.Refusal.{Refusal}
use Rattle.evenodd.proofs.RewriteLaws.{between, agrees_self, agrees_back, one_but}
use Rattle.evenodd.proofs.ChangeLaws.{change_given}
use Rattle.evenodd.proofs.Shown.{in_stripe, in_bench}
use Rattle.evenodd.specs.Determined.{EncodesOne, RestoresOne, RestoresUnread, RewritesOne, left_of, RewritesUnread, ChangesOne, ChangesAllOne, PlacesOne, SamePart, ShowsOne, PlacesUnread, ShowsUnread}
use lib.ListN.{length}
use Rattle.parity.specs.Theorems.{AtMostOne, AbsentUnread}
use Rattle.parity.proofs.Bytes.{stripe_ext}
use Rattle.maps.proofs.Absent.{nth_one}
use Rattle.maps.specs.declared.Map.{Map}
use Rattle.refusals.specs.Refusals.{pass, verdict_of, Gives, Verdict}
use Rattle.inputs.proofs.Tests.{lent_given}
use Rattle.inputs.specs.declared.lists.ListRefusal.{ListRefusal}
use Rattle.inputs.specs.declared.lists.ListRefusal.TheVariants.{Whole, Item}
use Rattle.evenodd.specs.Restores.{Benched, RestoredFrom}
use Rattle.evenodd.specs.Rewrites.{column_rules, rewrite_rules, Rewrites}
use Rattle.evenodd.specs.Changes.{change_rules}
use Rattle.evenodd.specs.ChangesAll.{change_rules_of, ItemChanged, ChangesAll}
use denote.Ref.{Bor}
use Rattle.evenodd.specs.declared.shows.Place.{Place}
use Rattle.evenodd.specs.declared.shows.Place.TheVariants.{InStripe, InBench}
use Rattle.evenodd.specs.Shows.{Places, PartOf, PartAt}

-- ---- encode

-- valid stripes with the same data columns are one
pub data_determine : (m k b : ℕ) → Shape m k b → (s x y : List ℕ) → Valid m k b x → Valid m k b y
    → ((t : ℕ) → t < k → differs m b s x t ≡ false) → ((t : ℕ) → t < k → differs m b s y t ≡ false) → x ≡ y
data_determine m k b h s x y vx vy dx dy =
    stripe_determined m k b (frame m k b h) h.filled k (k + 1) (served m k b h k (k + 1) (omega arith) (omega arith)) x y vx vy (record {
      at = λ l i t hl hi ht nh nd. let real : t < k = below t ht nh nd in sym (same_column m b s x t (dx t real) l i hl hi) ∙ same_column m b s y t (dy t real) l i hl hi;
    })
  where
    below : (t : ℕ) → t < k + 2 → t ≢ k → t ≢ k + 1 → t < k
    below t ht nh nd = by_cases (dec_lt t k) (λ l. l) (λ n. by_cases (dec_lt k t) (λ l. absurd (nd (omega arith))) (λ o. absurd (nh (omega arith))))

pub encodes_one : EncodesOne
unfolding EncodesOne
encodes_one m k b s x y (Ok _) (Ok _) p q =
    (refl, data_determine m k b (stripe_given m k b (length s) p.told).0 s x y p.written.0 q.written.0 p.written.1 q.written.1)
encodes_one m k b s x y (Ok _) (Err g) p q = absurd (passes_not g (gives_one (stripe_rules m k b (length s)) _ _ p.told q.told))
encodes_one m k b s x y (Err f) (Ok _) p q = absurd (passes_not f (gives_one (stripe_rules m k b (length s)) _ _ q.told p.told))
encodes_one m k b s x y (Err f) (Err g) p q =
    (ap Err (refuse_one f g (gives_one (stripe_rules m k b (length s)) _ _ p.told q.told)), p.written ∙ sym q.written)

-- ---- restore

-- where restore's rules pass
pub record Passed (m k b : ℕ) (map : Map) (bench : List ℕ) : Type 0 where
  pub shape : Shape m k b
  pub held : length bench ≡ bench_length m b
  pub few : absences k map.places ≤ 2

pub restore_passed : (m k b : ℕ) (map : Map) (s bench : List ℕ) → Gives (restore_rules m k b map s (length bench)) pass → Passed m k b map bench
restore_passed m k b map s bench g =
    let (gaps, _) = gives_passed (gap_rules m k b map (length s) (length bench)) (contradicted m k b map s ∷ []) g in
    let (lent, many) = gives_passed (lent_rules m k b map (length s) (length bench)) (too_many_absent k map ∷ []) gaps in
    let fits = lent_given m k b (length s) map (length bench) lent in
    let (few, _) = passed_first many in
    record { shape = fits.shape; held = fits.held; few = omega arith }

-- two benches of one valid stripe are one
benched_one : (m b n first second : ℕ) (v before x y : List ℕ) → 1 < m → 0 < b → length before ≡ bench_length m b
    → Benched m b n first second v before x → Benched m b n first second v before y → x ≡ y
unfolding bench_length stripe_length
benched_one m b n first second v before x y big full held p q =
    stripe_ext m 0 b big full x y (p.size ∙ held) (q.size ∙ held) (λ l i t hl hi ht.
    by_cases (dec_lt 0 t)
    (λ c. let e : t ≡ 1 = omega arith in rw e (p.half1 l i hl hi ∙ sym (q.half1 l i hl hi)))
    (λ c. let e : t ≡ 0 = omega arith in rw e (p.half0 l i hl hi ∙ sym (q.half0 l i hl hi))))

pub restores_one : RestoresOne
unfolding RestoresOne AtMostOne
restores_one m k b map s bench x y (Ok g) (Ok h) p q =
    let w = restore_passed m k b map s bench p.told in
    let u = p.restored refl in
    let v = q.restored refl in
    let count : g.count ≡ h.count = u.counted ∙ sym v.counted in
    let first : g.first ≡ h.first = nth_one (k + 2) 0 map.places g.first h.first u.lowest v.lowest in
    let second : g.second ≡ h.second = nth_one (k + 2) 1 map.places g.second h.second u.other v.other in
    let es : u.stripe ≡ v.stripe = at_most_one m k b w.shape map.places w.few s u.stripe v.stripe u.valid v.valid u.agrees v.agrees in (
      λ i. Ok (record { count = count i; first = first i; second = second i }),
      benched_one m b g.count g.first g.second u.stripe bench x y w.shape.value.prime.big w.shape.filled w.held u.bench (rw (count, first, second, es) v.bench),
    )
restores_one m k b map s bench x y (Ok g) (Err r) p q = absurd (passes_not r (gives_one (restore_rules m k b map s (length bench)) _ _ p.told q.told))
restores_one m k b map s bench x y (Err r) (Ok g) p q = absurd (passes_not r (gives_one (restore_rules m k b map s (length bench)) _ _ q.told p.told))
restores_one m k b map s bench x y (Err r) (Err r') p q =
    (ap Err (refuse_one r r' (gives_one (restore_rules m k b map s (length bench)) _ _ p.told q.told)), p.kept r refl ∙ sym (q.kept r' refl))

pub restores_unread : RestoresUnread
unfolding RestoresUnread AbsentUnread
restores_unread m k b map s other bench x r p e a = record {
  told = gives_instead (gap_rules m k b map (length other) (length bench)) (contradicted m k b map s ∷ []) (contradicted m k b map other ∷ []) _ instead (rw (← e) at p.told);
  restored = λ e. again (p.restored e);
  kept = p.kept;
}
  where
    agrees : (v : List ℕ) → Agrees m k b map.places s v ↔ Agrees m k b map.places other v
    agrees = absent_unread m k b map.places s other a

    instead : {v : Verdict} → Gives (contradicted m k b map s ∷ []) v → Gives (contradicted m k b map other ∷ []) v
    instead (inl c) = inl (λ v vv av. c.0 v vv ((agrees v).1 av), c.1)
    instead (inr c) = inr (λ d. c.0 (λ v vv av. d v vv ((agrees v).0 av)), c.1)

    again : {n f g : ℕ} → RestoredFrom m k b map.places s bench x n f g → RestoredFrom m k b map.places other bench x n f g
    again u = record {
      stripe = u.stripe;
      valid = u.valid;
      agrees = (agrees u.stripe).0 u.agrees;
      counted = u.counted;
      lowest = u.lowest;
      other = u.other;
      bench = u.bench;
    }

-- ---- rewrite

-- what the rules give of a stripe they give of another that agrees with it in every other column
instead : (m k b column : ℕ) (s other : List ℕ) → AgreesBut m k b column s other → {v : Verdict}
    → Gives (column_rules m k b column s) v → Gives (column_rules m k b column other) v
instead m k b column s other a (inl c) = inl c
instead m k b column s other a (inr (n, inl c)) = inr (n, inl (λ v vv av. c.0 v vv (between m k b column other other s v (agrees_self m k b column other) (agrees_back m k b column s other a) av), c.1))
instead m k b column s other a (inr (n, inr c)) = inr (n, inr (λ d. c.0 (λ v vv av. d v vv (between m k b column s s other v (agrees_self m k b column s) a av)), c.1))

pub rewrites_unread : RewritesUnread
unfolding RewritesUnread
rewrites_unread m k b column s other x r p size a = go r p
  where
    told : {v : Verdict} → Gives (rewrite_rules m k b column s) v → Gives (rewrite_rules m k b column other) v
    told {v} g = gives_instead (stripe_rules m k b (length other)) (column_rules m k b column s) (column_rules m k b column other) v
        (instead m k b column s other a) (rw (← size) at g)

    go : (r : Result ⊤ Refusal) → Rewrites m k b column s x r → Rewrites m k b column other (left_of r x other) r
    go (Ok _) p = record { told = told p.told; left = (p.left.0, between m k b column s s other x (agrees_self m k b column s) a p.left.1) }
    go (Err f) p = record { told = told p.told; left = refl }

pub rewrites_one : RewritesOne
unfolding RewritesOne
rewrites_one m k b column s x y (Ok _) (Ok _) p q =
    let h = (stripe_given m k b (length s) (gives_passed (stripe_rules m k b (length s)) (column_rules m k b column s) p.told).0).0 in
    (refl, one_but m k b column h x y p.left.0 q.left.0 (between m k b column s s x y (agrees_self m k b column s) p.left.1 q.left.1))
rewrites_one m k b column s x y (Ok _) (Err g) p q = absurd (passes_not g (gives_one (rewrite_rules m k b column s) _ _ p.told q.told))
rewrites_one m k b column s x y (Err f) (Ok _) p q = absurd (passes_not f (gives_one (rewrite_rules m k b column s) _ _ q.told p.told))
rewrites_one m k b column s x y (Err f) (Err g) p q =
    (ap Err (refuse_one f g (gives_one (rewrite_rules m k b column s) _ _ p.told q.told)), p.left ∙ sym q.left)

-- ---- change

pub changes_one : ChangesOne
unfolding ChangesOne
changes_one m k b column row cell s x y (Ok _) (Ok _) p q =
    let f = change_given m k b column row cell s p.told in (
      refl,
      same_data_amounts m k b f.shape.value.prime.big f.shape.filled x y (p.left.size ∙ f.whole) (q.left.size ∙ f.whole)
          (λ l i t hl hi ht. by_cell (byte m b x l i t ≡ byte m b y l i t) t i column row
          (λ e d. rw (e, d) (p.left.new l hl ∙ sym (q.left.new l hl)))
          (λ other. data_stays f.datum p.left l i t hl hi ht other ∙ sym (data_stays f.datum q.left l i t hl hi ht other)))
          (amounts_both (amounts_back p.left.amounts) q.left.amounts),
    )
changes_one m k b column row cell s x y (Ok _) (Err g) p q = absurd (passes_not g (gives_one (change_rules m k b column row cell s) _ _ p.told q.told))
changes_one m k b column row cell s x y (Err f) (Ok _) p q = absurd (passes_not f (gives_one (change_rules m k b column row cell s) _ _ q.told p.told))
changes_one m k b column row cell s x y (Err f) (Err g) p q =
    (ap Err (refuse_one f g (gives_one (change_rules m k b column row cell s) _ _ p.told q.told)), p.left ∙ sym q.left)

-- ---- changes

-- the lists as a whole are given one verdict, the items have one first that is refused, and each item leaves one stripe
pub changes_all_one : ChangesAllOne
unfolding ChangesAllOne ChangesOne
changes_all_one m k b columns rows cells s x y r q p h = go r q p h
  where
    answered : (v w : Verdict) → Gives (list_rules m k b (length s) (length columns) (length rows) (length cells)) v
        → Gives (list_rules m k b (length s) (length columns) (length rows) (length cells)) w → v ≡ w
    answered v w = gives_one (list_rules m k b (length s) (length columns) (length rows) (length cells)) v w

    go : (r q : Result ⊤ ListRefusal) → ChangesAll m k b columns rows cells s x r → ChangesAll m k b columns rows cells s y q → (r ≡ q) × (x ≡ y)
    go (Ok _) (Ok _) p h = (
      refl,
      order_one (ItemChanged m k b columns rows cells) (length columns) (λ i hi w u v a c. (changes_one m k b _ _ _ w u v (Ok tt) (Ok tt) a c).1) s x y p.left h.left,
    )
    go (Ok _) (Err (Whole g)) p h = absurd (passes_not g (answered _ _ p.told.0 h.told))
    go (Ok _) (Err (Item j g)) p h = absurd (first_not (change_rules_of m k b columns rows cells s) (length columns) p.told.1 h.told.1)
    go (Err (Whole f)) (Ok _) p h = absurd (passes_not f (answered _ _ h.told.0 p.told))
    go (Err (Whole f)) (Err (Whole g)) p h = (ap (λ f. Err (Whole f)) (refuse_one f g (answered _ _ p.told h.told)), p.left ∙ sym h.left)
    go (Err (Whole f)) (Err (Item j g)) p h = absurd (passes_not f (answered _ _ h.told.0 p.told))
    go (Err (Item i f)) (Ok _) p h = absurd (first_not (change_rules_of m k b columns rows cells s) (length columns) h.told.1 p.told.1)
    go (Err (Item i f)) (Err (Whole g)) p h = absurd (passes_not g (answered _ _ p.told.0 h.told))
    go (Err (Item i f)) (Err (Item j g)) p h =
        let (item, refusal) = first_one (change_rules_of m k b columns rows cells s) (length columns) p.told.1 h.told.1 in
        (ap₂ (λ i f. Err (Item i f)) item refusal, p.left ∙ sym h.left)

-- ---- show

pub places_one : PlacesOne
unfolding PlacesOne
places_one m k b map s bench column r q x y = go r q x y
  where
    answered : (r q : Result Place Refusal) → Places m k b map s bench column r → Places m k b map s bench column q → verdict_of r ≡ verdict_of q
    answered r q x y = gives_one (show_rules m k b map (length s) (length bench) column) _ _ x.told y.told

    go : (r q : Result Place Refusal) → Places m k b map s bench column r → Places m k b map s bench column q → r ≡ q
    go (Ok (InStripe a n)) (Ok (InStripe c l)) x y = let (_, p, u) = in_stripe x in let (_, q, v) = in_stripe y in ap₂ (λ at n. Ok (InStripe at n)) (p ∙ sym q) (u ∙ sym v)
    go (Ok (InStripe a n)) (Ok (InBench c l)) x y = absurd (true≢false (sym (in_stripe x).0 ∙ (in_bench y).0))
    go (Ok (InBench a n)) (Ok (InStripe c l)) x y = absurd (true≢false (sym (in_stripe y).0 ∙ (in_bench x).0))
    go (Ok (InBench a n)) (Ok (InBench c l)) x y = let (_, p, u) = in_bench x in let (_, q, v) = in_bench y in ap₂ (λ at n. Ok (InBench at n)) (p ∙ sym q) (u ∙ sym v)
    go (Ok p) (Err g) x y = absurd (passes_not g (answered (Ok p) (Err g) x y))
    go (Err f) (Ok p) x y = absurd (passes_not f (answered (Ok p) (Err f) y x))
    go (Err f) (Err g) x y = ap Err (refuse_one f g (answered (Err f) (Err g) x y))

pub part_one : {x : Bor (List ℕ)} {at n : ℕ} {r q : Bor (List ℕ)} → PartOf x at n r → PartOf x at n q → SamePart r q
part_one u v = record { block = u.block ∙ sym v.block; place = u.place ∙ sym v.place; bytes = u.bytes ∙ sym v.bytes }

part_at_one : (s bench : Bor (List ℕ)) (p : Result Place Refusal) (r q : Bor (List ℕ)) → PartAt s bench p r → PartAt s bench p q → SamePart r q
part_at_one s bench (Ok (InStripe a n)) r q u v = part_one u v
part_at_one s bench (Ok (InBench a n)) r q u v = part_one u v
part_at_one s bench (Err f) r q u v = part_one u v

pub shows_one : ShowsOne
unfolding ShowsOne PlacesOne
shows_one m k b map s bench column r q x y =
    let e = places_one m k b map s.now bench.now column x.answer y.answer x.places y.places in
    part_at_one s bench y.answer r q (rw e at x.part) y.part

pub places_unread : PlacesUnread
unfolding PlacesUnread
places_unread m k b map s bench other spare column r x e f = record { told = rw (e, f) x.told; lies = x.lies }

pub shows_unread : ShowsUnread
unfolding ShowsUnread PlacesUnread PlacesOne
shows_unread m k b map s bench other spare column r q x y e f =
    places_one m k b map other.now spare.now column x.answer y.answer (places_unread m k b map s.now bench.now other.now spare.now column x.answer x.places e f) y.places
