-- Which of a presence map's places are absent.
--   PresentFrom n map     a place at or above n is present
--   Stray k map           a place at or above k + 2 is present: it is no column's
--   absent_below n map     how many places below n are absent
--   NthAbsent n j map t   t is the absent place below n with j absent places below it; 129 where there is none
--   Counts n map r        how many places below n are absent, and the two lowest of them, 129 standing for none
use Rattle.std.specs.Prelude.{◌≡◌, Bool, true, false, not, List, ℕ, ◌+◌, ◌≤◌, ◌<◌}
use Rattle.parity.specs.Sum.{count}
use Rattle.parity.specs.Presence.{present}
use Rattle.maps.specs.declared.Gaps.{Gaps}

pub record PresentFrom (n : ℕ) (map : List Bool) : Type 0 where
  pub at : ℕ
  pub above : n ≤ at
  pub there : present map at ≡ true

abbrev pub Stray : ℕ → List Bool → Type 0
Stray k map = PresentFrom (k + 2) map

unfoldable pub absent_below : ℕ → List Bool → ℕ
absent_below n map = count n (λ x. not (present map x))

pub record NthAbsent (n j : ℕ) (map : List Bool) (t : ℕ) : Type 0 where
  pub found : j < absent_below n map → (t < n) × (present map t ≡ false) × (absent_below t map ≡ j)
  pub none : absent_below n map ≤ j → t ≡ 129

pub record Counts (n : ℕ) (map : List Bool) (r : Gaps) : Type 0 where
  pub count : r.count ≡ absent_below n map
  pub first : NthAbsent n 0 map r.first
  pub second : NthAbsent n 1 map r.second
