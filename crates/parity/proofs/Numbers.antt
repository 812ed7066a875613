-- The numbers C1 to C11, and others. Each claim has a test, the tests of all the claims are computed at once, and a claim whose test passes is true.
-- Where a claim is about every valid stripe, its test is of the candidates, the only stripes that could be valid.
--   shape? … unlike?   tests, and their meanings: shape_sound … unlike_sound
--   test, tests        the test of a claim, and of a list of claims
--   computed           the tests of the numbers pass
--   sound              a claim is true if its test says so
--   numbers_given      the numbers, given the theorems Table and AtMostOne
use mathlib.Core.Path.{◌≡◌, refl, sym, ap, ◌∙◌}
use mathlib.Core.Logic.{◌≢◌}
use mathlib.Core.Bool.{Bool, true, false, true≢false}
use mathlib.Core.List.{List, [], ◌∷◌}
use Prim.Native.Nat.{ℕ, suc, ◌+◌, ◌-◌, ◌≤◌, ◌<◌}
use native.Mathlib.Nat.{lt_of_not-le}
use native.Mathlib.Decide.{dec_lt}
use native.Mathlib.Omega.{arith}
use lib.Dec.{eqb}
use lib.ListN.{length, get_or, get_or-eq_default}
use Rattle.parity.specs.Xor.{◌⊕◌}
use Rattle.parity.specs.Sum.{sum, count, some}
use Rattle.parity.specs.Shape.{accepted, member, Shape, column_length, stripe_length}
use Rattle.parity.specs.Equations.{cell, back, H, S, D, amount_h, amount_d, Holds}
use Rattle.parity.specs.Stripe.{byte, lane, Valid, broken_rows, broken_diagonals}
use Rattle.parity.specs.Presence.{present, absences, differs, differing, Agrees}
use Rattle.parity.specs.Change.{stands_in_d, depends}
use Rattle.parity.specs.Theorems.{Table, AtMostOne}
use Rattle.parity.specs.Numbers.{Claim, valid, special, agreeing, contradicted, ambiguous, counted, wrong, unmendable, intact, blank, changed, Means, All, numbers, Numbers}
use Rattle.parity.specs.Candidate.{candidate}
use Rattle.parity.proofs.Count.{one_pass}
use Rattle.parity.proofs.Bytes.{zeros_past, zeros_blank}
use Rattle.parity.proofs.Columns.{same_column, column_same}
use Rattle.parity.proofs.Candidate.{candidate_holds}
use Rattle.parity.proofs.Test.{Test, equal, unequal, at_most, is, both, or_else, every, any, passes, Says, proves}

module _ (m k b : ℕ) where
  abbrev shape? : Test
  shape? = both (is (member m accepted) true) (both (both (at_most 1 k) (at_most k m)) (both (at_most 1 b) (at_most b 4096)))

  abbrev valid? : List ℕ → Test
  valid? s =
      both (both (equal (length s) (stripe_length m k b)) (every (length s) (λ x. at_most (suc (get_or s x 0)) 256)))
      (every b (λ l. let a = lane m b s l in every (m - 1) (λ i. both (equal (a i k) (H m k a i)) (equal (a i (k + 1)) (D m k a i)))))

  abbrev agrees? : List Bool → List ℕ → List ℕ → Test
  agrees? map s v = every (k + 2) (λ t. or_else (is (present map t) false) (is (differs m b s v t) false))

  -- in some lane the candidate for column u breaks an equation
  abbrev stuck? : List ℕ → ℕ → Test
  stuck? s u =
      any b (λ l. let a = candidate m k (lane m b s l) u in
      any (m - 1) (λ i. or_else (unequal (a i k) (H m k a i)) (unequal (a i (k + 1)) (D m k a i))))

  abbrev unlike? : List ℕ → List ℕ → Test
  unlike? v w = any (k + 2) (λ t. is (differs m b v w t) true)

test : Claim → Test
test (valid m k b s) = valid? m k b s
test (special m k b s x) = every b (λ l. equal (S m k (lane m b s l)) (get_or x l 0))
test (agreeing m k b map s v) = both (both (shape? m k b) (at_most (absences k map) 2)) (both (valid? m k b v) (agrees? m k b map s v))
test (contradicted m k b map s) =
    both (both (at_most k m) (at_most (absences k map) 2))
    (any (k + 2) (λ u. both (every (k + 2) (λ t. or_else (equal t u) (is (present map t) true))) (stuck? m k b s u)))
test (ambiguous m k b map s v w) =
    both (both (at_most 3 (absences k map)) (unlike? m k b v w))
    (both (both (valid? m k b v) (valid? m k b w)) (both (agrees? m k b map s v) (agrees? m k b map s w)))
test (counted m k b s rows diagonals) = both (equal (broken_rows m k b s) rows) (equal (broken_diagonals m k b s) diagonals)
test (wrong m k b s u v) = both (valid? m k b v) (every (k + 2) (λ t. is (differs m b s v t) (eqb u t)))
test (unmendable m k b s) = both (at_most k m) (every (k + 2) (λ u. stuck? m k b s u))
test (intact m k b s) =
    both (both (equal (broken_rows m k b s) 0) (equal (broken_diagonals m k b s) 0)) (any b (λ l. any (m - 1) (λ i. any (k + 2) (λ t. unequal (byte m b s l i t) 0))))
test (blank m k b s) =
    both (both (every (length s) (λ x. equal (get_or s x 0) 0)) (valid? m k b s)) (both (equal (broken_rows m k b s) 0) (equal (broken_diagonals m k b s) 0))
test (changed m k b column row cell s v) =
    both (both (equal (length v) (length s)) (every b (λ l. equal (byte m b v l row column) (get_or cell l 0))))
    (every b (λ l. every (m - 1) (λ i.
    both (both (equal (amount_h m k (lane m b v l) i) (amount_h m k (lane m b s l) i)) (equal (amount_d m k (lane m b v l) i) (amount_d m k (lane m b s l) i)))
    (every (k + 2) (λ t.
    both (or_else (is (depends m k column row i t) true) (equal (byte m b v l i t) (byte m b s l i t)))
    (or_else (is (depends m k column row i t) false) (unequal (byte m b v l i t) (byte m b s l i t))))))))

tests : List Claim → Test
tests [] = at_most 0 0
tests (c ∷ cs) = both (test c) (tests cs)

computed : passes (tests numbers) ≡ true
unfolding passes tests test candidate byte column_length stripe_length broken_rows broken_diagonals present absences differs cell back H S D amount_h amount_d sum count some ◌⊕◌ stands_in_d depends
computed = refl

module _ (m k b : ℕ) where
  shape_sound : Table → Says (shape? m k b) → Shape m k b
  unfolding Table
  shape_sound table (accepted, ((real, few), (filled, short))) = record { value = (table m).0 accepted; real = real; few = few; filled = filled; short = short }

  valid_sound : (s : List ℕ) → Says (valid? m k b s) → Valid m k b s
  valid_sound s ((whole, bytes), lanes) = record {
    stripe = record { whole = whole; bytes = λ x. within x (dec_lt x (length s)) };
    lanes = λ l hl. record { h = λ i hi. (lanes l hl i hi).0; d = λ i hi. (lanes l hl i hi).1 };
  }
    where
      within : (x : ℕ) → Dec (x < length s) → get_or s x 0 < 256
      within x (yes l) = bytes x l
      within x (no l) = rw (get_or-eq_default s 0 {n = x} (omega arith)) (omega arith)

  agrees_sound : (map : List Bool) (s v : List ℕ) → Says (agrees? m k b map s v) → Agrees m k b map s v
  agrees_sound map s v h = record { at = λ t l p. h t l (λ e. true≢false (sym p ∙ e)) }

  -- no valid stripe differs from s in column u alone
  stuck_sound : (s : List ℕ) (u : ℕ) → k ≤ m → u < k + 2 → Says (stuck? m k b s u)
      → (v : List ℕ) → Valid m k b v → ((t : ℕ) → t < k + 2 → t ≢ u → differs m b s v t ≡ false) → ⊥
  stuck_sound s u few inside (l, hl, (i, hi, broken)) v p alone = broken (λ ne. ne (right.h i hi)) (right.d i hi)
    where
      right : Holds m k (candidate m k (lane m b s l) u)
      right = candidate_holds m k u (lane m b s l) (lane m b v l) (p.lanes l hl) (λ i t hi ht ne. same_column m b s v t (alone t ht ne) l i hl hi) few inside

  unlike_sound : (v w : List ℕ) → Says (unlike? m k b v w) → v ≢ w
  unlike_sound v w (t, l, e) same = true≢false (sym e ∙ ap (λ x. differs m b x w t) same ∙ column_same m b w w t (λ l i _ _. refl))

module _ (table : Table) (at_most_one : AtMostOne) where
  sound : (c : Claim) → Says (test c) → Means c
  unfolding test differing AtMostOne
  sound (valid m k b s) h = valid_sound m k b s h
  sound (special m k b s x) h = h
  sound (agreeing m k b map s v) ((shape, few), (good, alike)) =
      let p = valid_sound m k b v good in
      let q = agrees_sound m k b map s v alike in
      (p, q, λ w pw qw. at_most_one m k b (shape_sound m k b table shape) map few s w v pw p qw q)
  sound (contradicted m k b map s) ((few, absent), (u, inside, (others, stuck))) = (
    absent,
    λ v p q. stuck_sound m k b s u few inside stuck v p (λ t l ne. q.at t l (others t l ne)),
  )
  sound (ambiguous m k b map s v w) ((absent, unlike), ((good, good'), (alike, alike'))) = (
    absent,
    valid_sound m k b v good,
    valid_sound m k b w good',
    agrees_sound m k b map s v alike,
    agrees_sound m k b map s w alike',
    unlike_sound m k b v w unlike,
  )
  sound (counted m k b s rows diagonals) h = h
  sound (wrong m k b s u v) (good, differ) = (valid_sound m k b v good, record { at = differ })
  sound (unmendable m k b s) (few, stuck) = λ v p. lt_of_not-le (λ most.
      let (u, inside, alone) = one_pass (k + 2) (differs m b s v) (omega arith) most in
      stuck_sound m k b s u few inside (stuck u inside) v p alone)
  sound (intact m k b s) ((rows, diagonals), (l, hl, (i, hi, (t, ht, there)))) = record {
    rows = rows;
    diagonals = diagonals;
    some = record { l = l; i = i; t = t; inside = (hl, hi, ht); there = there };
  }
  sound (blank m k b s) ((zeros, good), (rows, diagonals)) = (zeros_blank m k b s (zeros_past s zeros), valid_sound m k b s good, rows, diagonals)
  sound (changed m k b column row cell s v) ((size, new), each) = (
    record {
      size = size;
      new = new;
      amounts = record { rows = λ l i hl hi. (each l hl i hi).0.0; diagonals = λ l i hl hi. (each l hl i hi).0.1 };
      stays = λ l i t hl hi ht alone. ((each l hl i hi).1 t ht).0 (λ e. true≢false (sym e ∙ alone));
    },
    λ l i t hl hi ht so. ((each l hl i hi).1 t ht).1 (λ e. true≢false (sym so ∙ e)),
  )

  all_sound : (cs : List Claim) → Says (tests cs) → All cs
  unfolding tests
  all_sound [] h = tt
  all_sound (c ∷ cs) (h, hs) = (sound c h, all_sound cs hs)

  pub numbers_given : Numbers
  unfolding Numbers
  numbers_given = all_sound numbers (proves (tests numbers) computed)
