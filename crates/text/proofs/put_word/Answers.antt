-- `text::put_word` meets its contract: the part that was lent came back as the word.
use mathlib.Core.Path.{◌≡◌, sym, subst}
use mathlib.Core.List.{List}
use Prim.Native.Nat.{ℕ, ◌+◌, ◌-◌}
use lib.ListN.{length}
use borrow.Rule.Slice.PartMut.{put_mid}
use Rattle.text.specs.Text.{Wrote}
use Rattle.text.proofs.Writing.{wrote_part}
use native.Mathlib.Omega.{arith}
use Rattle.text.proofs.put_word.Goals as goal

pub returns : goal.returns
returns c =
    let a = c.args in
    let x = a.out.now in
    let w = a.word.now in
    let n = a.at + length w - a.at in
    let e : n ≡ length w = omega arith in
    subst (λ (y : List ℕ). Wrote x (put_mid a.at n x y) a.at (a.at + length w) w) (sym c.copy_into.ensures) (wrote_part x w a.at n (a.at + length w) (omega arith) (sym e) (omega arith))
