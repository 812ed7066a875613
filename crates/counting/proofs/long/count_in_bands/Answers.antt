-- `counting::long::count_in_bands` meets its contract: line m - 1 stands after the band, and each other line is held to it.
use mathlib.Core.Path.{ap}
use Prim.Native.Nat.{ℕ}
use Rattle.parity.specs.Xor.{◌⊕◌}
use Rattle.counting.specs.Counting.{test_line}
use Rattle.counting.proofs.Found.{found_cong}
use Rattle.counting.proofs.long.count_in_bands.Goals as goal

pub returns : goal.returns
returns c =
    let a = c.args in
    found_cong c.count_bands.ensures (λ i l _ h. ap (λ (v : ℕ). v ⊕ test_line a.g a.s.now a.u i l) (c.sum_last.ensures.inside l h))
