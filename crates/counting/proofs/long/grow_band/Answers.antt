-- `counting::long::grow_band` meets its contract. The invariant: the columns below t are added.
use mathlib.Core.Path.{◌≡◌, subst}
use Prim.Native.Nat.{ℕ, ◌+◌, ◌<◌}
use Rattle.counting.proofs.Bands.{InBand, in_band_next}
use native.Mathlib.Omega.{arith}
use Rattle.counting.proofs.long.grow_band.Goals as goal
use Rattle.counting.proofs.long.grow_band.Goals.{After-grow_lines, then-k-u, else-k-u}

-- the columns below the group's end are added
grown : (c : goal.After-grow_lines) → InBand c.args.g c.args.s.now c.args.u c.args.first c.args.n c.args.seed c.args.w.now c.grow_lines.new.w c.min.result
grown c =
    let a = c.args in
    let y = c.loop-t in
    let some : 0 < c.if-k-u.most = (elim c.if-k-u.branch [ then-k-u w ↦ omega (arith, w.most-is) | else-k-u w ↦ omega (arith, w.most-is) ]) in
    in_band_next a.g a.s.now a.u a.first a.n a.seed a.w.now y.w c.grow_lines.new.w y.t c.min.result (omega (arith, c.min.ensures, c.loop-t-test.true)) y.invariant.2 c.grow_lines.ensures

pub loop-t-preserved : goal.loop-t-preserved
loop-t-preserved c =
    let a = c.args in
    let f = c.grow_lines in
    let e : c.min.result ≡ c.loop-t.t + c.if-k-u.most = omega arith in (
      omega arith,
      omega (arith, c.loop-t.invariant.1, f.auto),
      subst (λ (x : ℕ). InBand a.g a.s.now a.u a.first a.n a.seed a.w.now f.new.w x) e (grown (goal.at.loop-t-preserved c).After-grow_lines),
    )

pub returns-after-k-u-2 : goal.returns-after-k-u-2
returns-after-k-u-2 c =
    let a = c.args in
    let e : c.min.result ≡ a.g.k = omega arith in
    (subst (λ (x : ℕ). InBand a.g a.s.now a.u a.first a.n a.seed a.w.now c.grow_lines.new.w x) e (grown (goal.at.returns-after-k-u-2 c).After-grow_lines)).some (λ h. absurd (omega (arith, c.requires.1.laid.some)))
