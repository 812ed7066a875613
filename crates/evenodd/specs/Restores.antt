-- What restore answers and leaves in the bench. It speaks of valid stripes that agree, and of nothing else.
--   count_of, first_of, second_of   how many columns were restored, and their numbers; 0 129 129 where it is refused
--   Benched        the bench holds columns `first` and `second` of v; of n columns restored, halves that hold none are as they were
--   RestoredFrom   n columns are absent, `first` and `second` are their numbers, 129 for none, and the bench is that of a valid stripe that agrees
--   Restores       refused by `restore_rules`, and the bench is as it was; passed: `RestoredFrom`
use Rattle.std.specs.Prelude.{◌≡◌, Bool, cond, List, ℕ, ◌+◌, ◌-◌, ◌<◌, ltb, length, Result, Ok, Err}
use Rattle.parity.specs.Stripe.{byte, Valid}
use Rattle.parity.specs.Presence.{absences, Agrees}
use Rattle.maps.specs.declared.Gaps.{Gaps}
use Rattle.maps.specs.declared.Map.{Map}
use Rattle.refusals.specs.declared.Refusal.{Refusal}
use Rattle.refusals.specs.Refusals.{pass, refuse, verdict_of, Gives}
use Rattle.inputs.specs.Rules.{restore_rules}
use Rattle.maps.specs.Absent.{NthAbsent}

abbrev pub count_of : Result Gaps Refusal → ℕ
count_of (Ok gaps) = gaps.count
count_of (Err f) = 0

abbrev pub first_of : Result Gaps Refusal → ℕ
first_of (Ok gaps) = gaps.first
first_of (Err f) = 129

abbrev pub second_of : Result Gaps Refusal → ℕ
second_of (Ok gaps) = gaps.second
second_of (Err f) = 129

pub record Benched (m b n first second : ℕ) (v before after : List ℕ) : Type 0 where
  pub size : length after ≡ length before
  pub half0 : (l i : ℕ) → l < b → i < m - 1 → byte m b after l i 0 ≡ cond (ltb 0 n) (byte m b v l i first) (byte m b before l i 0)
  pub half1 : (l i : ℕ) → l < b → i < m - 1 → byte m b after l i 1 ≡ cond (ltb 1 n) (byte m b v l i second) (byte m b before l i 1)

-- v is a valid stripe that agrees, and the bench is its
pub record RestoredFrom (m k b : ℕ) (map : List Bool) (s before after : List ℕ) (n first second : ℕ) : Type 0 where
  pub stripe : List ℕ
  pub valid : Valid m k b stripe
  pub agrees : Agrees m k b map s stripe
  pub counted : n ≡ absences k map
  pub lowest : NthAbsent (k + 2) 0 map first
  pub other : NthAbsent (k + 2) 1 map second
  pub bench : Benched m b n first second stripe before after

pub record Restores (m k b : ℕ) (map : Map) (s before after : List ℕ) (r : Result Gaps Refusal) : Type 0 where
  pub told : Gives (restore_rules m k b map s (length before)) (verdict_of r)
  pub restored : verdict_of r ≡ pass → RestoredFrom m k b map.places s before after (count_of r) (first_of r) (second_of r)
  pub kept : (f : Refusal) → verdict_of r ≡ refuse f → after ≡ before
