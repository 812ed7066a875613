-- Laws of the tests that the calls share.
--   Numbers, stripe_good     what is known where the numbers and the stripe's length are right
--   Lent, lent_good          and where the bench's length and the map are right too: it is true, and has no strays
--   lent_given, lent_passed  their rules pass exactly then
--   gaps_passed              and with at most two columns absent the rules up to 4 pass
--   FewAbsent, gaps_good     and where at most two columns are absent
use mathlib.Core.Path.{◌≡◌, refl}
use mathlib.Core.List.{[], ◌∷◌}
use Prim.Native.Nat.{ℕ, ◌+◌, ◌≤◌}
use native.Mathlib.Omega.{arith}
use Rattle.parity.specs.Shape.{Shape, column_length, stripe_length, bench_length}
use Rattle.parity.specs.Presence.{absences}
use Rattle.std.specs.Prelude.{Ok}
use Rattle.maps.specs.declared.Gaps.{Gaps}
use Rattle.maps.specs.declared.Map.{Map}
use Rattle.refusals.specs.Refusals.{pass, Gives}
use Rattle.maps.specs.Absent.{Stray, Counts}
use Rattle.maps.specs.Truth.{TrueMap}
use Rattle.inputs.specs.Rules.{bench_length_differs, too_many_absent, stripe_rules, map_rules, lent_rules, gap_rules}
use Rattle.inputs.specs.Tests.{JudgesStripe, JudgesLent, JudgesGaps}
use Rattle.refusals.proofs.Rules.{gives_next, gives_after, gives_passed, passed_first, equal_of}
use Rattle.inputs.proofs.Stripe.{stripe_passed, stripe_given}
use Rattle.maps.proofs.Truth.{not_lying}

pub record Numbers (m k b n c : ℕ) : Type 0 where
  pub shape : Shape m k b
  pub column : c ≡ column_length m b
  pub stripe : n ≡ stripe_length m k b

module _ (m k b n : ℕ) where
  pub stripe_good : {c : ℕ} → JudgesStripe m k b n (Ok c) → Numbers m k b n c
  stripe_good h = let (shape, stripe) = stripe_given m k b n h.told in record { shape = shape; column = h.column; stripe = stripe }

  module _ (map : Map) (w : ℕ) where
    pub record Lent (c : ℕ) : Type 0 where
      pub tests : Gives (lent_rules m k b map n w) pass
      pub numbers : Numbers m k b n c
      pub held : w ≡ bench_length m b
      pub truth : TrueMap map
      pub clear : Stray k map.places → ⊥

    -- what their rules ask
    pub record Fits : Type 0 where
      pub shape : Shape m k b
      pub stripe : n ≡ stripe_length m k b
      pub held : w ≡ bench_length m b
      pub truth : TrueMap map
      pub clear : Stray k map.places → ⊥

    pub lent_given : Gives (lent_rules m k b map n w) pass → Fits
    lent_given g =
        let (first, second) = gives_passed (stripe_rules m k b n) (bench_length_differs m b w ∷ map_rules k map) g in
        let (shape, stripe) = stripe_given m k b n first in
        let (held, rest) = passed_first second in
        let (honest, last) = passed_first rest in
        record { shape = shape; stripe = stripe; held = equal_of _ _ held; truth = not_lying map honest; clear = (passed_first last).0 }

    pub lent_passed : Fits → Gives (lent_rules m k b map n w) pass
    lent_passed f =
        gives_after (stripe_rules m k b n) (bench_length_differs m b w ∷ map_rules k map) pass (stripe_passed m k b n f.shape f.stripe) (gives_next (λ d. d f.held) (gives_next (λ lies. lies f.truth) (gives_next f.clear refl)))

    pub gaps_passed : Fits → absences k map.places ≤ 2 → Gives (gap_rules m k b map n w) pass
    gaps_passed f few = gives_after (lent_rules m k b map n w) (too_many_absent k map ∷ []) pass (lent_passed f) (gives_next (λ many. omega arith) refl)

    pub lent_good : {c : ℕ} → JudgesLent m k b map n w (Ok c) → Lent c
    lent_good h =
        let fits = lent_given h.told in
        record {
          tests = h.told;
          numbers = record { shape = fits.shape; column = h.column; stripe = fits.stripe };
          held = fits.held;
          truth = fits.truth;
          clear = fits.clear;
        }

    -- all of that, and the absent columns
    pub record FewAbsent (c : ℕ) (gaps : Gaps) : Type 0 where
      pub lent : Lent c
      pub tests : Gives (gap_rules m k b map n w) pass
      pub few : absences k map.places ≤ 2
      pub counts : Counts (k + 2) map.places gaps

    pub gaps_good : {c : ℕ} {gaps : Gaps} → JudgesGaps m k b map n w (Ok (c, gaps)) → FewAbsent c gaps
    gaps_good h =
        let (lent, few) = gives_passed (lent_rules m k b map n w) (too_many_absent k map ∷ []) h.told in
        record {
          lent = lent_good (record { told = lent; column = h.good.0 });
          tests = h.told;
          few = let (not_many, _) = passed_first few in omega arith;
          counts = h.good.1;
        }
