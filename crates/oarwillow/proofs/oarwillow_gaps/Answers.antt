-- `oarwillow::oarwillow_gaps` meets its contract: the map's numbers and gaps are written. From k = 127 on all 129 places are columns.
use mathlib.Core.Path.{◌≡◌, refl}
use mathlib.Core.Logic.{by_cases}
use Prim.Native.Nat.{ℕ, ◌+◌, min}
use native.Mathlib.Decide.{dec_lt}
use native.Mathlib.Omega.{arith}
use Rattle.maps.specs.declared.Gaps.{Gaps}
use Rattle.maps.specs.declared.Map.{Map}
use Rattle.maps.specs.Maps.{FindsGaps}
use Rattle.oarwillow.proofs.oarwillow_gaps.Goals as goal

-- the gaps below the columns are those below k + 2
below : (map : Map) (k n : ℕ) (r : Gaps) → n ≡ min k 127 → FindsGaps map (n + 2) r → FindsGaps map (k + 2) r
below map k n r is h = by_cases (dec_lt k 127)
    (λ l. let e : n + 2 ≡ k + 2 = omega (arith, is) in rw e at h)
    (λ f.
    let e : n + 2 ≡ 129 = omega (arith, is) in
    let all = rw e at (h.some (omega arith)) in
    record { some = λ m. (let z : k + 2 ≡ 129 = omega arith in rw z all); all = λ _. all })

pub returns : goal.returns
returns c =
    record {
      map = _;
      marked = c.of_bytes-map.ensures;
      answer = c.gaps-gaps.result;
      meets = below _ _ c.min.result _ c.min.ensures c.gaps-gaps.ensures;
      present = refl;
      highest = refl;
      absent = refl;
      first = refl;
      second = refl;
      number = refl;
    }
