-- Laws of blank stripes and of columns of zeros.
--   column_zeros, zeros_column   a column is zeros exactly when its bytes, told by lane and row, are zero
--   shown_blank, blank_shown     every column that is shown is zeros exactly when the stripe is blank that stripe and bench are together
--   agrees_blank, blank_agrees   a blank stripe agrees exactly when the bytes of every present column are zero
--   blank_stripe, stripe_blank, stripe_valid   there is a blank stripe of every shape, and it is valid
use mathlib.Core.Path.{◌≡◌, sym, ap, ◌∙◌}
use mathlib.Core.Bool.{Bool, true, false, cond}
use mathlib.Core.List.{List}
use Prim.Native.Nat.{ℕ, ◌+◌, ◌-◌, ◌*◌, ◌/◌, ◌%◌, ◌<◌}
use native.Mathlib.Nat.{div-add-mod', mod-lt}
use native.Mathlib.Omega.{arith}
use lib.Arith.{digits_lt}
use lib.ListN.{drop, get_or, length-take}
use lib.Seq.{get_or-take, get_or-drop}
use Rattle.parity.specs.Shape.{column_length}
use Rattle.parity.specs.Stripe.{byte, Valid, Blank}
use Rattle.parity.specs.Presence.{present, Agrees}
use Rattle.parity.proofs.Bytes.{row_at, build, build_byte, build_stripe}
use Rattle.parity.proofs.Columns.{same_column, column_same}
use Rattle.parity.proofs.Theorems.{blank_holds}
use Rattle.cells.specs.Runs.{Zeros}
use Rattle.cells.proofs.Tells.{zeros_at}
use Rattle.evenodd.specs.Shows.{half}
use Rattle.end_to_end.specs.OneOrNothing.{Together}
use Rattle.judging.specs.Shown.{column_bytes, shown, ShownZeros}
use Rattle.judging.specs.Theorems.{PresentZeros}

module _ (m b : ℕ) (s : List ℕ) (t : ℕ) where
  zeros_column : Zeros (column_bytes m b s t) → (l i : ℕ) → l < b → i < m - 1 → byte m b s l i t ≡ 0
  unfolding column_bytes byte column_length
  zeros_column z l i hl hi =
      sym (get_or-take (column_length m b) (drop (t * column_length m b) s) (i * b + l) 0 (digits_lt hi hl) ∙ get_or-drop (t * column_length m b) s (i * b + l) 0)
      ∙ zeros_at z (i * b + l)

  column_zeros : 0 < b → ((l i : ℕ) → l < b → i < m - 1 → byte m b s l i t ≡ 0) → Zeros (column_bytes m b s t)
  unfolding column_bytes byte
  column_zeros full none = record {
    each = λ x h.
        let inside : x < column_length m b = omega (arith, h, length-take (column_length m b) (drop (t * column_length m b) s)) in
        get_or-take (column_length m b) (drop (t * column_length m b) s) x 0 inside
        ∙ get_or-drop (t * column_length m b) s x 0
        ∙ ap (λ (y : ℕ). get_or s (t * column_length m b + y) 0) (sym (div-add-mod' x b))
        ∙ none (x % b) (x / b) (mod-lt x full) (row_at m b full x inside);
  }

module _ {m k b : ℕ} {map : List Bool} {s bench v : List ℕ} (one : Together m k b map s bench v) where
  pub shown_blank : ShownZeros m k b map s bench → Blank m k b v
  unfolding shown
  shown_blank z = record { zeros = λ l i t hl hi ht. one.at l i t hl hi ht ∙ go l i t hl hi (present map t) (z.columns t ht) }
    where
      go : (l i t : ℕ) → l < b → i < m - 1 → (p : Bool) → Zeros (cond p (column_bytes m b s t) (column_bytes m b bench (half map t)))
          → cond p (byte m b s l i t) (byte m b bench l i (half map t)) ≡ 0
      go l i t hl hi true z = zeros_column m b s t z l i hl hi
      go l i t hl hi false z = zeros_column m b bench (half map t) z l i hl hi

  pub blank_shown : 0 < b → Blank m k b v → ShownZeros m k b map s bench
  unfolding shown
  blank_shown full z = record { columns = λ t ht. go t (present map t) (λ l i hl hi. sym (one.at l i t hl hi ht) ∙ z.zeros l i t hl hi ht) }
    where
      go : (t : ℕ) (p : Bool) → ((l i : ℕ) → l < b → i < m - 1 → cond p (byte m b s l i t) (byte m b bench l i (half map t)) ≡ 0)
          → Zeros (cond p (column_bytes m b s t) (column_bytes m b bench (half map t)))
      go t true none = column_zeros m b s t full none
      go t false none = column_zeros m b bench (half map t) full none

module _ {m k b : ℕ} {map : List Bool} {s v : List ℕ} (z : Blank m k b v) where
  pub agrees_blank : Agrees m k b map s v → PresentZeros m k b map s
  agrees_blank a l i t hl hi ht p = same_column m b s v t (a.at t ht p) l i hl hi ∙ z.zeros l i t hl hi ht

  pub blank_agrees : PresentZeros m k b map s → Agrees m k b map s v
  blank_agrees c = record { at = λ t ht p. column_same m b s v t (λ l i hl hi. c l i t hl hi ht p ∙ sym (z.zeros l i t hl hi ht)) }

pub blank_stripe : ℕ → ℕ → ℕ → List ℕ
blank_stripe m k b = build m k b (λ l i t. 0)

module _ (m k b : ℕ) where
  pub stripe_blank : Blank m k b (blank_stripe m k b)
  unfolding blank_stripe
  stripe_blank = record { zeros = build_byte m k b _ }

  pub stripe_valid : Valid m k b (blank_stripe m k b)
  unfolding blank_stripe
  stripe_valid = record { stripe = build_stripe m k b _ (λ l i t. omega arith); lanes = blank_holds m k b (blank_stripe m k b) stripe_blank }
