-- Laws for finding a lane at which a row breaks.
--   one_row                     a row that can be summed over all data columns
--   row_set                     a row summed in a cell is the amount that it breaks by
--   first_put                   the first byte that is not zero, of a run that was set
--   found, breaks_there         where a row breaks a lane is found, and it does not obey the equations
use mathlib.Core.Path.{◌≡◌, refl, sym, ap, ap₂, ◌∙◌, subst}
use mathlib.Core.List.{List}
use Prim.Native.Nat.{ℕ, ◌+◌, ◌-◌, ◌≤◌, ◌<◌}
use native.Mathlib.Nat.{le_refl}
use native.Mathlib.Omega.{arith}
use lib.ListN.{length, get_or, get_or-eq_default}
use Rattle.parity.specs.Xor.{◌⊕◌}
use Rattle.parity.specs.Equations.{amount_h, Holds}
use Rattle.parity.specs.Stripe.{lane}
use Rattle.parity.proofs.Xor.{zero_⊕}
use Rattle.parity.proofs.Candidate.{row_amount_lem}
use Rattle.parity.proofs.Suspects.{hold_h}
use Rattle.std.specs.Prelude.{Option, Some, None, IsSome}
use borrow.Author.Rules.{rules}
use Rattle.cells.specs.Runs.{Put, FirstAt, First}
use Rattle.cells.proofs.Parts.{part, part_at}
use Rattle.cells.proofs.Puts.{put_same}
use Rattle.lines.specs.declared.Columns.{Columns}
use Rattle.lines.specs.declared.Grid.{Grid}
use Rattle.lines.specs.Lines.{Laid}
use Rattle.lines.specs.Rows.{Room}
use Rattle.lines.proofs.Places.{part_length}
use Rattle.sums.specs.Sums.{window_of, OneLine}
use Rattle.counting.proofs.Buts.{window_row, but_row}
use Rattle.locating.specs.Locating.{RowBreaks}

-- all data columns
abbrev every : Grid → Columns
every g = record { from = 0; to = g.k; u = 129; v = 129 }

module _ {g : Grid} {s : List ℕ} (z : Laid g s) {columns : Columns} (q : columns ≡ every g) (i : ℕ) (inside : i < g.m - 1) where
  pub one_row : {n seed to : ℕ} → Room n g.b seed to → OneLine g s n 0 i columns seed to
  one_row {n} {seed} {to} room = subst (λ (x : Columns). OneLine g s n 0 i x seed to) (sym q) (record {
    laid = z;
    slant = omega arith;
    inside = omega arith;
    first = refl;
    some = z.some;
    most = le_refl g.k;
    room = room;
  })

  row_is : (l : ℕ) → window_of g s 0 i columns l ≡ amount_h g.m g.k (lane g.m g.b s l) i
  row_is l =
      let a = lane g.m g.b s l in
      let far : g.k < 129 = omega (arith, z.few, z.sized.few) in
      ap (λ (x : Columns). window_of g s 0 i x l) q
      ∙ window_row g.m g.k a 129 i 0 g.k far
      ∙ but_row g.m g.k z.sized.big z.few a 129 i far (omega arith)
      ∙ row_amount_lem g.m g.k a i inside

  pub row_set : (w : List ℕ) {v : List ℕ} {seed n : ℕ} → length w ≤ seed → Put w v 0 n (λ l. get_or w (seed + l) 0 ⊕ window_of g s 0 i columns l)
      → Put w v 0 n (λ l. amount_h g.m g.k (lane g.m g.b s l) i)
  row_set w {seed = seed} past p = put_same p (λ l h.
      ap₂ ◌⊕◌ (get_or-eq_default w 0 {n = seed + l} (omega arith)) (row_is l) ∙ zero_⊕ (amount_h g.m g.k (lane g.m g.b s l) i))

pub first_put : (r : Option ℕ) {n : ℕ} {x : List ℕ} (y : List ℕ) {f : ℕ → ℕ} → n ≤ length y → Put x y 0 n f → First r (length (part y 0 n)) (λ l. get_or (part y 0 n) l 0) → First r n f
first_put None {n} y room p t = λ l h. sym (part_at y 0 n l (omega arith) ∙ p.inside l h) ∙ t l (omega (arith, part_length y n room))
first_put (Some r) {n} y room p t = record {
  within = omega (arith, t.within, part_length y n room);
  before = λ l h. sym (part_at y 0 n l (omega (arith, t.within, part_length y n room)) ∙ p.inside l (omega (arith, t.within, part_length y n room))) ∙ t.before l h;
  there = λ e. t.there (part_at y 0 n r (omega (arith, t.within, part_length y n room)) ∙ p.inside r (omega (arith, t.within, part_length y n room)) ∙ e);
}

module _ (g : Grid) (s : List ℕ) (i : ℕ) (p : RowBreaks g s i) where
  pub found : (r : Option ℕ) → First r g.b (λ l. amount_h g.m g.k (lane g.m g.b s l) i) → IsSome r
  found None none = absurd (p.there none)
  found (Some l) t = search rules

  pub breaks_there : (l : ℕ) → FirstAt g.b (λ l. amount_h g.m g.k (lane g.m g.b s l) i) l → Holds g.m g.k (lane g.m g.b s l) → ⊥
  breaks_there l t v = t.there (hold_h g.m g.k (lane g.m g.b s l) v i p.inside)
