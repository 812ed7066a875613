-- What show says and hands out.
--   from_bench_of, start_of, length_of   where an answer says that the column lies: 0 for the stripe and 1 for the bench, and the part; 0 0 0 where it is refused
--   half map t         the half of the bench where restore puts absent column t: 0 for the lowest absent column, 1 for the other
--   PartOf x at n r    r is the n bytes of the lent buffer x from `at` on, where they lie: the same block, the place in it, the bytes. No copy.
--   Places             what the question "where" answers. Refused by `show_rules`; passed: `Lies`
--   Shows              what show hands out; refused, it is an empty part at the start of the stripe
use Rattle.std.specs.Prelude.{◌≡◌, Bool, cond, List, ℕ, ◌+◌, ◌*◌, length, take, drop, Result, Ok, Err}
use Rattle.std.specs.Borrow.{Bor}
use Rattle.parity.specs.Shape.{column_length}
use Rattle.parity.specs.Presence.{present}
use Rattle.maps.specs.declared.Map.{Map}
use Rattle.evenodd.specs.declared.shows.Place.{Place}
use Rattle.evenodd.specs.declared.shows.Place.TheVariants.{InStripe, InBench}
use Rattle.refusals.specs.declared.Refusal.{Refusal}
use Rattle.refusals.specs.Refusals.{pass, verdict_of, Gives}
use Rattle.inputs.specs.Rules.{show_rules}
use Rattle.maps.specs.Absent.{absent_below}

unfoldable pub half : List Bool → ℕ → ℕ
half map t = absent_below t map

abbrev pub from_bench_of : Result Place Refusal → ℕ
from_bench_of (Ok (InStripe start n)) = 0
from_bench_of (Ok (InBench start n)) = 1
from_bench_of (Err f) = 0

abbrev pub start_of : Result Place Refusal → ℕ
start_of (Ok (InStripe start n)) = start
start_of (Ok (InBench start n)) = start
start_of (Err f) = 0

abbrev pub length_of : Result Place Refusal → ℕ
length_of (Ok (InStripe start n)) = n
length_of (Ok (InBench start n)) = n
length_of (Err f) = 0

-- a present column lies in the stripe, and an absent one in its half of the bench
pub record Lies (m b : ℕ) (map : List Bool) (column : ℕ) (r : Result Place Refusal) : Type 0 where
  pub from : from_bench_of r ≡ cond (present map column) 0 1
  pub start : start_of r ≡ cond (present map column) column (half map column) * column_length m b
  pub size : length_of r ≡ column_length m b

pub record Places (m k b : ℕ) (map : Map) (s bench : List ℕ) (column : ℕ) (r : Result Place Refusal) : Type 0 where
  pub told : Gives (show_rules m k b map (length s) (length bench) column) (verdict_of r)
  pub lies : verdict_of r ≡ pass → Lies m b map.places column r

pub record PartOf (x : Bor (List ℕ)) (at n : ℕ) (r : Bor (List ℕ)) : Type 0 where
  pub block : r.ref_ptr.0 ≡ x.ref_ptr.0
  pub place : r.ref_ptr.1 ≡ at + x.ref_ptr.1
  pub bytes : r.now ≡ take n (drop at x.now)

abbrev pub PartAt : Bor (List ℕ) → Bor (List ℕ) → Result Place Refusal → Bor (List ℕ) → Type 0
PartAt s bench (Ok (InStripe start n)) r = PartOf s start n r
PartAt s bench (Ok (InBench start n)) r = PartOf bench start n r
PartAt s bench (Err f) r = PartOf s 0 0 r

pub record Shows (m k b : ℕ) (map : Map) (s bench : Bor (List ℕ)) (column : ℕ) (r : Bor (List ℕ)) : Type 0 where
  pub answer : Result Place Refusal
  pub places : Places m k b map s.now bench.now column answer
  pub part : PartAt s bench answer r
