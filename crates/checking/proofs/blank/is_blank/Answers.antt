-- `checking::blank::is_blank` meets its contract: a list is zeros exactly when what stands before a place is, and what stands from there on.
use mathlib.Core.Path.{◌≡◌, sym, ap, ◌∙◌}
use mathlib.Core.List.{List}
use Prim.Native.Nat.{ℕ, ◌+◌, ◌-◌, ◌≤◌}
use native.Mathlib.Omega.{arith}
use lib.ListN.{length, drop, get_or, length-take}
use Rattle.cells.specs.Runs.{Zeros}
use Rattle.cells.proofs.Parts.{part, part_at, by_order}
use Rattle.cells.proofs.Tells.{zeros_at}
use Rattle.checking.proofs.blank.is_blank.Goals as goal

zeros_part : {x : List ℕ} (a e : ℕ) → Zeros x → Zeros (part x a e)
zeros_part {x} a e z = record { each = λ l h. part_at x a e l (omega (arith, h, length-take (e - a) (drop a x))) ∙ zeros_at z (a + l) }

part_zeros : {x : List ℕ} (a : ℕ) → a ≤ length x → Zeros (part x a (length x)) → Zeros (part x 0 a) → Zeros x
part_zeros {x} a inside late early = record {
  each = λ l h. by_order (get_or x l 0 ≡ 0) l a
      (λ low. let e : 0 + l ≡ l = omega arith in sym (part_at x 0 a l (omega arith) ∙ ap (λ (n : ℕ). get_or x n 0) e) ∙ zeros_at early l)
      (λ high.
      let e : a + (l - a) ≡ l = omega arith in
      sym (part_at x a (length x) (l - a) (omega arith) ∙ ap (λ (n : ℕ). get_or x n 0) e) ∙ zeros_at late (l - a));
}

pub returns-then-is_zero : goal.returns-then-is_zero
returns-then-is_zero c = (
  λ e. part_zeros c.args.parity c.requires (c.is_zero.ensures.0 c.if-is_zero.true) (c.is_zero-then-is_zero.ensures.0 e),
  λ all. c.is_zero-then-is_zero.ensures.1 (zeros_part 0 c.args.parity all),
)
