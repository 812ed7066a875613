-- Laws of the columns that are shown.
--   held_shown     what show hands out where it refuses none: the column that is meant, of the length of a column
use mathlib.Core.Path.{◌≡◌, ap, ◌∙◌}
use mathlib.Core.List.{List}
use Rattle.std.specs.Prelude.{Result, Ok, Err}
use Prim.Native.Nat.{ℕ, ◌+◌, ◌*◌, ◌≤◌, ◌<◌}
use native.Mathlib.Omega.{arith}
use denote.Ref.{Bor}
use lib.ListN.{length, take, drop, length-drop}
use lib.Seq.{length-take-le}
use Rattle.parity.specs.Shape.{column_length}
use Rattle.maps.specs.declared.Map.{Map}
use Rattle.evenodd.specs.declared.shows.Place.{Place}
use Rattle.evenodd.specs.declared.shows.Place.TheVariants.{InStripe, InBench}
use Rattle.refusals.specs.declared.Refusal.{Refusal}
use Rattle.refusals.specs.Refusals.{pass, refuse}
use Rattle.inputs.specs.Rules.{show_rules}
use Rattle.evenodd.specs.Shows.{half, Places, PartAt, Shows}
use Rattle.refusals.proofs.Rules.{passes_not, gives_one}
use Rattle.evenodd.proofs.Shown.{passes, in_stripe, in_bench, stripe_fits, bench_fits}
use Rattle.judging.specs.Shown.{column_bytes, shown, IsShown, Held}

-- a part of a buffer that begins at column u
part_column : (m b u : ℕ) (x r : List ℕ) (start n : ℕ) → r ≡ take n (drop start x) → start ≡ u * column_length m b → n ≡ column_length m b → start + n ≤ length x
    → (r ≡ column_bytes m b x u) × (length r ≡ column_length m b)
unfolding column_bytes
part_column m b u x r start n e at size fits = (
  e ∙ rw (at, size),
  ap length e ∙ length-take-le n (drop start x) (simp length-drop (omega arith)) ∙ size,
)

module _ {m k b : ℕ} {map : Map} (s bench : Bor (List ℕ)) (held : Held m k b map s.now bench.now) {t : ℕ} (below : t < k + 2) (r : Bor (List ℕ)) where
  placed : (p : Result Place Refusal) → Places m k b map s.now bench.now t p → PartAt s bench p r
      → IsShown m b map.places s.now bench.now t r.now
  unfolding shown
  placed (Ok (InStripe start n)) h part =
      let (there, at, size) = in_stripe h in
      let (same, long) = part_column m b t s.now r.now start n part.bytes at size (stripe_fits h) in
      record { same = rw there same; size = long }
  placed (Ok (InBench start n)) h part =
      let (absent, at, size) = in_bench h in
      let (same, long) = part_column m b (half map.places t) bench.now r.now start n part.bytes at size (bench_fits h) in
      record { same = rw absent same; size = long }
  placed (Err f) h part =
      absurd (passes_not f (gives_one (show_rules m k b map (length s.now) (length bench.now) t) pass (refuse f)
      (passes m k b map s.now bench.now t (record { shape = held.shape; stripe = held.stripe; held = held.room; truth = held.truth; clear = held.clear; named = below; few = held.few }))
      h.told))

  pub held_shown : Shows m k b map s bench t r → IsShown m b map.places s.now bench.now t r.now
  held_shown h = placed h.answer h.places h.part
