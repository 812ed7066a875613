-- `counting::long::count_at_once` meets its contract: the lines are held to an empty cell, which is zero as row m - 1 is, or to line m - 1.
use mathlib.Core.Path.{sym, ap}
use Prim.Native.Nat.{ℕ}
use Rattle.parity.specs.Xor.{◌⊕◌}
use Rattle.parity.specs.Stripe.{lane}
use Rattle.cells.proofs.Puts.{put_start}
use Rattle.counting.specs.Counting.{test_line}
use Rattle.counting.proofs.Buts.{but_last}
use Rattle.counting.proofs.Found.{found_cong}
use Rattle.counting.proofs.long.count_at_once.Goals as goal

pub returns-then-g-u : goal.returns-then-g-u
returns-then-g-u c =
    let a = c.args in
    found_cong c.count_folded.ensures (λ i l _ _.
    ap (λ (v : ℕ). v ⊕ test_line a.g a.s.now a.u i l) (sym (but_last a.g.m a.g.k c.requires.2.sized.big c.requires.2.few (lane a.g.m a.g.b a.s.now l) a.u c.if-g-u.true)))

pub returns : goal.returns
returns c =
    let a = c.args in
    found_cong c.count_folded-2.ensures (λ i l _ h.
    ap (λ (v : ℕ). v ⊕ test_line a.g a.s.now a.u i l) (put_start c.sum_last.ensures l h))
