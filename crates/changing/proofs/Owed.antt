-- Laws of what D's cells are owed.
--   paid_other, paid_d   the cells that are owed nothing, and those of D
--   paid_H, paid_D       so an equation of H is broken by as much as before, and one of D by what is owed more
--   paid_off_s           what is a changed cell before both sides are paid is one after
--   paid_columns, paid_none, paid_all   from what the cells became; where nothing is owed; where every cell of D got what it is owed
--   payable              every stripe can be paid
--   once_none, once_then nothing was done; one thing after another
use mathlib.Core.Path.{◌≡◌, refl, sym, ap, ap₂, subst, ◌∙◌}
use mathlib.Core.Bool.{Bool, cond}
use mathlib.Core.List.{List}
use Prim.Native.Nat.{ℕ, ◌+◌, ◌-◌, ◌*◌, ◌<◌}
use native.Mathlib.Decide.{ℕ_discrete}
use native.Mathlib.Omega.{arith}
use lib.ListN.{length, get_or}
use borrow.Author.Tests.{eq-eqb, ne_eqb}
use Rattle.parity.specs.Xor.{◌⊕◌}
use Rattle.parity.specs.Shape.{stripe_length}
use Rattle.parity.specs.Equations.{D, amount_h, amount_d}
use Rattle.parity.specs.Stripe.{byte, lane}
use Rattle.parity.specs.Change.{CellChanged}
use Rattle.parity.proofs.Xor.{⊕_zero, xor}
use Rattle.parity.proofs.Cells.{H_same, D_same}
use Rattle.parity.proofs.Bytes.{stripe_ext, build, build_byte, build_length}
use Rattle.cells.specs.Runs.{Zeros}
use Rattle.cells.proofs.Parts.{parts_end}
use Rattle.cells.proofs.Tells.{zeros_at}
use Rattle.lines.specs.declared.Grid.{Grid}
use Rattle.lines.specs.Lines.{Sized, Laid}
use Rattle.lines.proofs.Lines.{column_is}
use Rattle.lines.proofs.Cells.{at_row}
use Rattle.lines.proofs.Rows.{Grown}
use Rattle.changing.specs.Owed.{due, Paid, OncePaid}

module _ {m k b : ℕ} {owed s v : List ℕ} (paid : Paid m k b owed s v) where
  pub paid_other : (l i t : ℕ) → l < b → i < m - 1 → t < k + 1 → lane m b v l i t ≡ lane m b s l i t
  paid_other l i t hl hi ht =
      paid.bytes l i t hl hi (omega arith)
      ∙ ap (λ (y : Bool). lane m b s l i t ⊕ cond y (get_or owed l 0) 0) (ne_eqb t (k + 1) (λ e. absurd (omega (arith, e)))) ∙ ⊕_zero (lane m b s l i t)

  pub paid_d : (l i : ℕ) → l < b → i < m - 1 → lane m b v l i (k + 1) ≡ lane m b s l i (k + 1) ⊕ get_or owed l 0
  paid_d l i hl hi = paid.bytes l i (k + 1) hl hi (omega arith) ∙ ap (λ (y : Bool). lane m b s l i (k + 1) ⊕ cond y (get_or owed l 0) 0) (eq-eqb (k + 1) (k + 1) refl)

  paid_H : (l i : ℕ) → l < b → i < m - 1 → amount_h m k (lane m b v l) i ≡ amount_h m k (lane m b s l) i
  unfolding amount_h
  paid_H l i hl hi = ap₂ ◌⊕◌ (paid_other l i k hl hi (omega arith)) (H_same m k (lane m b v l) (lane m b s l) (λ i t hi ht. paid_other l i t hl hi (omega arith)) i)

  paid_D : (l i : ℕ) → l < b → i < m - 1 → amount_d m k (lane m b v l) i ≡ amount_d m k (lane m b s l) i ⊕ get_or owed l 0
  unfolding amount_d
  paid_D l i hl hi =
      ap₂ ◌⊕◌ (paid_d l i hl hi) (D_same m k (lane m b v l) (lane m b s l) (λ i t hi ht. paid_other l i t hl hi (omega arith)) i)
      ∙ tidy (lane m b s l i (k + 1)) (get_or owed l 0) (D m k (lane m b s l) i)
    where
      tidy : (x y z : ℕ) → x ⊕ y ⊕ z ≡ x ⊕ z ⊕ y
      tidy x y z = simp xor

-- Both sides get the same added in the same places.
pub paid_off_s : {m k b t i : ℕ} {cell s v : List ℕ} (owed : List ℕ) → t < k → i < m - 1 → CellChanged m k b t i cell s v → OncePaid m k b owed s owed v (CellChanged m k b t i cell)
paid_off_s {m} {k} {b} {t} {i} owed ht hi c = record {
  size = c.size;
  room = refl;
  holds = λ p q before after. record {
    size = after.size ∙ c.size ∙ sym before.size;
    new = λ l hl. paid_other after l i t hl hi (omega arith) ∙ c.new l hl;
    amounts = record {
      rows = λ l r hl hr. paid_H after l r hl hr ∙ c.amounts.rows l r hl hr ∙ sym (paid_H before l r hl hr);
      diagonals = λ l r hl hr. paid_D after l r hl hr ∙ ap (λ (x : ℕ). x ⊕ get_or owed l 0) (c.amounts.diagonals l r hl hr) ∙ sym (paid_D before l r hl hr);
    };
    stays = λ l r x hl hr hx e. after.bytes l r x hl hr hx ∙ ap (λ (y : ℕ). y ⊕ due k owed l x) (c.stays l r x hl hr hx e) ∙ sym (before.bytes l r x hl hr hx);
  };
}

-- from what the cells became: those of D, and the others
paid_columns : {m k b : ℕ} {owed s v : List ℕ} → length v ≡ length s
    → ((l i t : ℕ) → l < b → i < m - 1 → t < k + 1 → lane m b v l i t ≡ lane m b s l i t)
    → ((l i : ℕ) → l < b → i < m - 1 → lane m b v l i (k + 1) ≡ lane m b s l i (k + 1) ⊕ get_or owed l 0)
    → Paid m k b owed s v
paid_columns {m} {k} {b} {owed} {s} {v} size others in_d = record {
  size = size;
  bytes = λ l i t hl hi ht. elim (ℕ_discrete t (k + 1)) [
    | yes e ↦ rw e (in_d l i hl hi ∙ ap (λ (y : Bool). lane m b s l i (k + 1) ⊕ cond y (get_or owed l 0) 0) (sym (eq-eqb (k + 1) (k + 1) refl)))
    | no ne ↦
        others l i t hl hi (omega (arith, ne)) ∙ sym (⊕_zero (lane m b s l i t))
        ∙ ap (λ (y : Bool). lane m b s l i t ⊕ cond y (get_or owed l 0) 0) (sym (ne_eqb t (k + 1) ne))
  ];
}

pub paid_none : {m k b : ℕ} {owed : List ℕ} (s : List ℕ) → Zeros owed → Paid m k b owed s s
paid_none {m} {k} {b} {owed} s z = paid_columns refl (λ l i t hl hi ht. refl) (λ l i hl hi.
    sym (ap (λ (x : ℕ). lane m b s l i (k + 1) ⊕ x) (zeros_at z l) ∙ ⊕_zero (lane m b s l i (k + 1))))

module _ {g : Grid} {s : List ℕ} (laid : Laid g s) where
  pub paid_all : {owed v : List ℕ} → Grown (g.m - 1) g.b (g.k * g.column + g.column) s v (λ r l. get_or owed (0 + l) 0) → Paid g.m g.k g.b owed s v
  paid_all {owed} {v} lined = paid_columns lined.size
      (λ l i t hl hi ht.
      at_row z v t l i ∙ lined.before (t * g.column + (i * g.b + l)) (omega (arith, parts_end g.column ht, parts_end g.b hi, column_is g.m g.b g.column z))
      ∙ sym (at_row z s t l i))
      (λ l i hl hi.
      let place : (g.k + 1) * g.column + (i * g.b + l) ≡ g.k * g.column + g.column + (i * g.b + l) = omega arith in
      let e : 0 + l ≡ l = omega arith in
      at_row z v (g.k + 1) l i ∙ ap (λ (n : ℕ). get_or v n 0) place ∙ lined.inside i l hi hl
      ∙ ap₂ ◌⊕◌ (ap (λ (n : ℕ). get_or s n 0) (sym place) ∙ sym (at_row z s (g.k + 1) l i)) (ap (λ (n : ℕ). get_or owed n 0) e))
    where
      z : Sized g.m g.b g.column
      z = laid.sized

  whole : length s ≡ stripe_length g.m g.k g.b
  unfolding stripe_length
  whole = laid.whole ∙ ap (λ (n : ℕ). (g.k + 2) * n) laid.sized.column

  pub once_none : (owed : List ℕ) (R : List ℕ → List ℕ → Type 0) → ((v : List ℕ) → R v v) → OncePaid g.m g.k g.b owed s owed s R
  once_none owed R same = record {
    size = refl;
    room = refl;
    holds = λ v w before after. subst (R v)
        (stripe_ext g.m g.k g.b laid.sized.big laid.sized.filled v w (before.size ∙ whole) (after.size ∙ whole) (λ l i t hl hi ht.
        before.bytes l i t hl hi ht ∙ sym (after.bytes l i t hl hi ht)))
        (same v);
  }

  payable : (owed : List ℕ) → (v : List ℕ) × Paid g.m g.k g.b owed s v
  payable owed =
      let f : ℕ → ℕ → ℕ → ℕ = λ l i t. byte g.m g.b s l i t ⊕ due g.k owed l t in
      (build g.m g.k g.b f, record { size = build_length g.m g.k g.b f ∙ sym whole; bytes = build_byte g.m g.k g.b f })

  pub once_then : {owed debt owed₀ s₀ t : List ℕ} {P Q : List ℕ → List ℕ → Type 0} (R : List ℕ → List ℕ → Type 0)
      → OncePaid g.m g.k g.b owed₀ s₀ owed s P → OncePaid g.m g.k g.b owed s debt t Q
      → ((v u w : List ℕ) → P v u → Q u w → R v w) → OncePaid g.m g.k g.b owed₀ s₀ debt t R
  once_then {owed} R p q both = record {
    size = q.size ∙ p.size;
    room = q.room ∙ p.room;
    holds = λ v w before after. let (u, between) = payable owed in both v u w (p.holds v u before between) (q.holds u w between after);
  }
