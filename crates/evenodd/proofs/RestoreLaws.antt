-- Laws of restore: which valid stripe the bench is of.
--   restored_none     none absent: the columns fit, and nothing is written
--   restored_one      one absent: the others fit
--   restored_two      two absent: exactly one valid stripe agrees
--   none_agrees       the columns other than the absent one, if there is one, don't fit: no valid stripe agrees
--   restore-…         what restore says on each way out, and what it asks for
use mathlib.Core.Path.{◌≡◌, refl, sym, ap, ◌∙◌}
use mathlib.Core.Logic.{◌≢◌, by_cases}
use mathlib.Core.Bool.{Bool, true, false, cond, true≢false}
use mathlib.Core.List.{List, [], ◌∷◌}
use Prim.Native.Nat.{ℕ, ◌+◌, ◌-◌, ◌≤◌, ◌<◌}
use native.Mathlib.Decide.{ℕ_discrete, dec_lt}
use native.Mathlib.Omega.{arith}
use lib.Dec.{ltb}
use lib.ListN.{length}
use Rattle.parity.specs.Shape.{Shape}
use Rattle.parity.specs.Stripe.{byte, Stripe, Valid}
use Rattle.parity.specs.Presence.{present, Agrees}
use Rattle.parity.specs.Candidate.{FitsBut}
use Rattle.parity.specs.Theorems.{ExactlyOne}
use Rattle.parity.proofs.Columns.{same_column, column_same}
use Rattle.parity.proofs.Fits.{rewritten, rewritten_other, fits_valid, valid_fits}
use Rattle.parity.proofs.Theorems.{exactly_one}
use Rattle.maps.specs.declared.Gaps.{Gaps}
use Rattle.maps.specs.Absent.{absent_below, NthAbsent, Counts}
use Rattle.maps.proofs.Absent.{absences_below, below_under, others_present}
use Rattle.evenodd.specs.Fills.{Gapped, GapsFilled, FillsGaps}
use Rattle.maps.specs.declared.Map.{Map}
use Rattle.std.specs.Prelude.{Ok, Err}
use Rattle.refusals.specs.declared.Refusal.TheVariants.{Contradicted}
use Rattle.refusals.specs.Refusals.{Verdict, Gives}
use Rattle.inputs.specs.Rules.{contradicted, gap_rules, restore_rules}
use Rattle.evenodd.specs.Restores.{Benched, RestoredFrom, Restores}
use Rattle.refusals.proofs.Rules.{passes_not, gives_first, gives_next, gives_after}
use Rattle.inputs.proofs.Tests.{FewAbsent}

module _ (m k b : ℕ) (h : Shape m k b) (map : List Bool) (s : List ℕ) (st : Stripe m k b s) (n first second : ℕ)
    (counted : n ≡ absent_below (k + 2) map) (lowest : NthAbsent (k + 2) 0 map first) (other : NthAbsent (k + 2) 1 map second) where
  -- a present column is not the absent one
  not_first : 0 < n → (t : ℕ) → present map t ≡ true → t ≢ first
  not_first some t p e = true≢false (sym p ∙ ap (present map) e ∙ (lowest.found (omega arith)).1)

  -- with at most one absent, every column but `first` is present
  but_first : n ≤ 1 → (t : ℕ) → t < k + 2 → t ≢ first → present map t ≡ true
  but_first few t ht ne = others_present (k + 2) map first second (omega arith) lowest other t ht ne (λ e. let q = other.none (omega arith) in let l = h.few in let o = h.value.most in omega arith)

  same_but : n ≤ 1 → (v : List ℕ) → Agrees m k b map s v → (l i t : ℕ) → l < b → i < m - 1 → t < k + 2 → t ≢ first → byte m b s l i t ≡ byte m b v l i t
  same_but few v a l i t hl hi ht ne = same_column m b s v t (a.at t ht (but_first few t ht ne)) l i hl hi

  pub none_agrees : n ≤ 1 → (FitsBut m k b first s → ⊥) → (v : List ℕ) → Valid m k b v → Agrees m k b map s v → ⊥
  none_agrees few no_fit v vv a = no_fit (valid_fits m k b first s h.few v vv (same_but few v a))

  -- the stripe with column `first` rewritten agrees
  agrees : Agrees m k b map s (rewritten m k b first s)
  agrees = record {
    at = λ t ht p. column_same m b s (rewritten m k b first s) t (λ l i hl hi. rewritten_other m k b first s l i t hl hi ht (other_than t ht p));
  }
    where
      other_than : (t : ℕ) → t < k + 2 → present map t ≡ true → t ≢ first
      other_than t ht p = by_cases (dec_lt 0 n) (λ some. not_first some t p) (λ none e. let q = lowest.none (omega arith) in let l = h.few in let o = h.value.most in omega arith)

  from : (fits : FitsBut m k b first s) (before after : List ℕ) → Benched m b n first second (rewritten m k b first s) before after → RestoredFrom m k b map s before after n first second
  from fits before after benched = record {
    stripe = rewritten m k b first s;
    valid = fits_valid m k b first s st fits;
    agrees = agrees;
    counted = counted ∙ sym (absences_below k map);
    lowest = lowest;
    other = other;
    bench = benched;
  }

  pub restored_none : n ≡ 0 → FitsBut m k b first s → (before : List ℕ) → RestoredFrom m k b map s before before n first second
  restored_none e fits before = from fits before before (record {
    size = refl;
    half0 = λ l i hl hi. rw e refl;
    half1 = λ l i hl hi. rw e refl;
  })

  pub restored_one : n ≡ 1 → FitsBut m k b first s → (before after : List ℕ) → length after ≡ length before
      → ((r : List ℕ) → Valid m k b r → ((l i t : ℕ) → l < b → i < m - 1 → t < k + 2 → t ≢ first → byte m b s l i t ≡ byte m b r l i t)
      → (l i : ℕ) → l < b → i < m - 1 → byte m b after l i 0 ≡ byte m b r l i first)
      → ((l i : ℕ) → l < b → i < m - 1 → byte m b after l i 1 ≡ byte m b before l i 1) → RestoredFrom m k b map s before after n first second
  restored_one e fits before after size half0 half1 = from fits before after (record {
    size = size;
    half0 = λ l i hl hi. rw e (half0 (rewritten m k b first s) (fits_valid m k b first s st fits) (rewritten_other m k b first s) l i hl hi);
    half1 = λ l i hl hi. rw e (half1 l i hl hi);
  })

  pub restored_two : n ≡ 2 → (before after : List ℕ) → length after ≡ length before
      → ((r : List ℕ) → Valid m k b r → ((l i t : ℕ) → l < b → i < m - 1 → t < k + 2 → t ≢ first → t ≢ second → byte m b s l i t ≡ byte m b r l i t)
      → (l i : ℕ) → l < b → i < m - 1 → (byte m b after l i 0 ≡ byte m b r l i first) × (byte m b after l i 1 ≡ byte m b r l i second))
      → RestoredFrom m k b map s before after n first second
  unfolding ExactlyOne
  restored_two e before after size both =
      let (v, vv, av, _) = exactly_one m k b h map (absences_below k map ∙ sym counted ∙ e) s st in
      let halves = both v vv (λ l i t hl hi ht nf ns. same_column m b s v t (av.at t ht (others_present (k + 2) map first second (omega arith) lowest other t ht nf ns)) l i hl hi) in
      record {
        stripe = v;
        valid = vv;
        agrees = av;
        counted = counted ∙ sym (absences_below k map);
        lowest = lowest;
        other = other;
        bench = record {
          size = size;
          half0 = λ l i hl hi. (halves l i hl hi).0 ∙ sym (ap (λ (q : ℕ). cond (ltb 0 q) (byte m b v l i first) (byte m b before l i 0)) e);
          half1 = λ l i hl hi. (halves l i hl hi).1 ∙ sym (ap (λ (q : ℕ). cond (ltb 1 q) (byte m b v l i second) (byte m b before l i 1)) e);
        };
      }

-- ---- what restore asks for, and what it says

-- two absent columns, the lower one first
order : (n : ℕ) (map : List Bool) (gaps : Gaps) → Counts n map gaps → gaps.count ≡ 2 → (gaps.first < gaps.second) × (gaps.second < n)
order n map gaps counts e =
    let low = counts.first.found (omega (arith, counts.count)) in
    let high = counts.second.found (omega (arith, counts.count)) in
    let below : gaps.first < gaps.second = by_cases (dec_lt gaps.first gaps.second) (λ l. l) (λ n.
    by_cases (dec_lt gaps.second gaps.first)
    (λ l. absurd (let z = below_under map gaps.second gaps.first high.1 l in omega (arith, low.2, high.2)))
    (λ q. absurd (let z : gaps.first ≡ gaps.second = omega arith in let y = ap (λ t. absent_below t map) z in omega (arith, low.2, high.2)))) in
    (below, high.0)

module _ (m k b : ℕ) (map : Map) (s before : List ℕ) where
  module _ {c : ℕ} {gaps : Gaps} (known : FewAbsent m k b (length s) map (length before) c gaps) where
    rules : {v : Verdict} → Gives (contradicted m k b map s ∷ []) v → Gives (restore_rules m k b map s (length before)) v
    rules g = gives_after (gap_rules m k b map (length s) (length before)) (contradicted m k b map s ∷ []) _ known.tests g

    shape : Shape m k b
    shape = known.lent.numbers.shape

    counts : Counts (k + 2) map.places gaps
    counts = known.counts

    few : gaps.count ≤ 2
    few = let e = absences_below k map.places in omega (arith, counts.count, known.few)

    pub restore_gapped : Gapped (record { m = m; k = k; b = b; column = c }) gaps s before
    restore_gapped = record {
      shape = shape;
      column = known.lent.numbers.column;
      stripe = known.lent.numbers.stripe;
      held = known.lent.held;
      few = few;
      one = λ e. (counts.first.found (omega (arith, counts.count))).0;
      two = order (k + 2) map.places gaps counts;
    }

    module _ (st : Stripe m k b s) (after : List ℕ) where
      from_filled : GapsFilled m k b gaps s before after → RestoredFrom m k b map.places s before after gaps.count gaps.first gaps.second
      from_filled f = by_count (ℕ_discrete gaps.count 2) (ℕ_discrete gaps.count 1)
        where
          by_count : Dec (gaps.count ≡ 2) → Dec (gaps.count ≡ 1) → RestoredFrom m k b map.places s before after gaps.count gaps.first gaps.second
          by_count (yes e) _ =
              restored_two m k b shape map.places s st gaps.count gaps.first gaps.second counts.count counts.first counts.second e before after (f.two e).size (f.two e).both
          by_count (no _) (yes e) =
              restored_one m k b shape map.places s st gaps.count gaps.first gaps.second counts.count counts.first counts.second e (f.fits (omega arith)) before after (f.one e).size (f.one e).first (f.one e).second
          by_count (no n) (no o) =
              let most = few in
              let z : gaps.count ≡ 0 = by_cases (dec_lt 0 gaps.count) (λ l. absurd (by_cases (dec_lt 1 gaps.count) (λ c. n (omega arith)) (λ c. o (omega arith)))) (λ l. omega arith) in
              rw (f.none z) (restored_none m k b shape map.places s st gaps.count gaps.first gaps.second counts.count counts.first counts.second z (f.fits (omega arith)) before)

      pub restore_filled : FillsGaps m k b gaps s before after true → Restores m k b map s before after (Ok gaps)
      restore_filled f =
          let r = from_filled f in
          record { told = rules (gives_next (λ c. c r.stripe r.valid r.agrees) refl); restored = λ _. r; kept = λ g p. absurd (passes_not g p) }

      pub restore_contradicted : FillsGaps m k b gaps s before after false → Restores m k b map s before after (Err Contradicted)
      restore_contradicted f = record {
        told = rules (gives_first
            (none_agrees m k b shape map.places s st gaps.count gaps.first gaps.second counts.count counts.first counts.second f.0 f.1));
        restored = λ p. absurd (passes_not Contradicted (sym p));
        kept = λ _ _. f.2;
      }
