-- `rewriting::rewrite_with` meets its contract. The invariant: the rows before `first` are rewritten; of short cells these are none, for all have room.
use mathlib.Core.Path.{◌≡◌, refl, subst}
use Prim.Native.Nat.{ℕ, ◌+◌, ◌-◌, ◌/◌}
use native.Mathlib.Omega.{arith}
use Rattle.lines.proofs.Cells.{cells_fit, cells_room}
use Rattle.rewriting.specs.Rewrite.{BandRewritten}
use Rattle.rewriting.proofs.Rewrites.{laid_length, whole_band, bands_next, bands_all}
use Rattle.rewriting.proofs.rewrite_with.Goals as goal

pub rewrite_band-requires : goal.rewrite_band-requires
rewrite_band-requires g c =
    let y = c.loop-first.invariant in
    let p = c.requires.4 in
    let n = c.min in (
      c.requires.1,
      omega (arith, n.ensures, c.loop-first-test.true),
      omega (arith, y.0, cells_room n.result c.args.g.b g.row.ROOM (omega (arith, n.ensures))),
      record {
        laid = laid_length p y.3.size;
        some = omega (arith, n.ensures, c.loop-first-test.true, cells_fit 1 c.args.g.b g.row.ROOM p.sized.filled (omega (arith, c.requires.2)));
        room = refl;
        short = λ h. omega (arith, n.ensures, y.2 h, whole_band p.sized g.row.ROOM (c.requires.3 h));
      },
    )

pub loop-first-preserved : goal.loop-first-preserved
loop-first-preserved g c =
    let a = c.args in
    let y = c.loop-first.invariant in
    let n = c.min in
    let e : n.result ≡ g.row.ROOM / a.g.b = omega arith in (
      omega (arith, y.0, c.rewrite_band.auto),
      omega arith,
      λ h. absurd (omega (arith, whole_band c.requires.4.sized g.row.ROOM (c.requires.3 h))),
      subst (λ (x : ℕ). BandRewritten a.g.m a.g.k a.g.b a.u 0 (c.loop-first.first + x) a.s.now c.rewrite_band.new.s) e (bands_next a.g.m a.g.k a.g.b a.u y.3 c.rewrite_band.ensures),
    )

pub returns-2 : goal.returns-2
returns-2 g c =
    let a = c.args in
    let e : c.loop-first.first + c.min.result ≡ a.g.m - 1 = omega arith in
    bands_all c.requires.4 (subst (λ (x : ℕ). BandRewritten a.g.m a.g.k a.g.b a.u 0 x a.s.now c.rewrite_band.new.s) e (bands_next a.g.m a.g.k a.g.b a.u c.loop-first.invariant.3 c.rewrite_band.ensures))

pub returns : goal.returns
returns g c =
    let a = c.args in
    let y = c.loop-first in
    let e : y.first ≡ a.g.m - 1 = omega arith in
    bands_all c.requires.4 (subst (λ (x : ℕ). BandRewritten a.g.m a.g.k a.g.b a.u 0 x a.s.now y.s) e y.invariant.3)
