-- Laws of the marks in bytes.
--   FilledTo                    of 129 places those below n hold what f says
--   filled_none, filled_more    none are asked; one more is written
--   as_number                   a mark as a byte
--   of_bytes_lem, as_bytes          all 129 are written
use mathlib.Core.Path.{◌≡◌, refl, ap, ◌∙◌}
use mathlib.Core.Logic.{by_cases}
use mathlib.Core.Bool.{Bool, true, false, cond}
use mathlib.Core.List.{List}
use Prim.Native.Nat.{ℕ, ◌+◌, ◌≤◌, ◌<◌}
use native.Mathlib.Decide.{ℕ_discrete}
use native.Mathlib.Omega.{arith}
use lib.Dec.{eqb}
use lib.ListN.{length, get_or, set, length-set}
use lib.Seq.{get_or-set_same, get_or-set_other}
use mir.Val.{bool_byte}
use Rattle.parity.specs.Presence.{present}
use Rattle.maps.specs.declared.Map.{Map}
use Rattle.maps.specs.Maps.{OfPlaces, OfBytes, AsBytes}

pub record FilledTo {A : Type 0} (d : A) (f : ℕ → A) (n : ℕ) (xs : List A) : Type 0 where
  pub whole : length xs ≡ 129
  pub at : (t : ℕ) → t < n → get_or xs t d ≡ f t

pub filled_none : {A : Type 0} (d : A) (f : ℕ → A) (xs : List A) → length xs ≡ 129 → FilledTo d f 0 xs
filled_none d f xs w = record { whole = w; at = λ t l. absurd (omega arith) }

pub filled_more : {A : Type 0} (d : A) (f : ℕ → A) (n : ℕ) (xs : List A) → FilledTo d f n xs → n < 129 → FilledTo d f (n + 1) (set xs n (f n))
filled_more d f n xs h l = record {
  whole = rw length-set h.whole;
  at = λ t b. by_cases (ℕ_discrete t n)
      (λ e. rw e (get_or-set_same xs n (f n) d (let w = h.whole in omega arith)))
      (λ e. get_or-set_other xs n t (f n) d e ∙ h.at t (omega arith));
}

pub as_number : (t : Bool) → bool_byte t ≡ cond t 1 0
as_number true = refl
as_number false = refl

pub of_bytes_lem : (bytes : List ℕ) (places : List Bool) (n : ℕ) (r : Map) → FilledTo false (λ t. eqb (get_or bytes t 0) 1) n places → 129 ≤ n
    → OfPlaces places r → OfBytes bytes r
unfolding present
of_bytes_lem bytes places n r h l made = record { at = λ t b. ap (λ (p : List Bool). get_or p t false) made.same ∙ h.at t (omega arith); truth = made.truth }

pub as_bytes : (map : Map) (bytes : List ℕ) (n : ℕ) → FilledTo 0 (λ t. bool_byte (present map.places t)) n bytes → 129 ≤ n → AsBytes map bytes
as_bytes map bytes n h l = record { whole = h.whole; at = λ t b. h.at t (omega arith) ∙ as_number (present map.places t) }
