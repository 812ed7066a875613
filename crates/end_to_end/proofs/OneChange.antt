-- What follows from change's promise. Data and amounts make a stripe, and change says of both
-- what they become.
--   done, fits_other   where all that change asks is so, it is done; and so it is of another stripe of that length
--   all_grown       what the cells get added, and left_stripe: so what is left is bytes
--   as_encode       of a valid stripe, the same amounts and the data of another: what encode makes of that one
--   same_counts, same_broken, same_checks, keeps_broken   the same amounts, the same counts
--   near_too, one_too, same_rules, same_blame   what is near to one stripe has its like near to another that has the same amounts; so locate says the same of both
use mathlib.Core.Path.{◌≡◌, refl, sym, ap, ap₂, ◌∙◌}
use mathlib.Core.Logic.{◌≢◌, ◌↔◌, inl, inr}
use mathlib.Core.Bool.{Bool, true, false, cond, not}
use mathlib.Core.List.{List, [], ◌∷◌}
use Prim.Native.Nat.{ℕ, ◌+◌, ◌-◌, ◌≤◌, ◌<◌}
use native.Mathlib.Decide.{dec_lt}
use native.Mathlib.Omega.{arith}
use lib.Dec.{eqb}
use lib.ListN.{length, get_or, get_or-eq_default}
use Rattle.std.specs.Prelude.{Result, Ok, Err, ⊤}
use borrow.Author.Tests.{eq-eqb}
use Rattle.parity.specs.Xor.{◌⊕◌}
use Rattle.parity.specs.Shape.{Shape, stripe_length}
use Rattle.parity.specs.Stripe.{byte, lane, Stripe, Valid, broken_rows, broken_diagonals}
use Rattle.parity.specs.Presence.{differing, AgreesBut}
use Rattle.parity.specs.Change.{depends, SameAmounts}
use Rattle.parity.proofs.Xor.{⊕_self, ⊕_zero, ⊕_cancel, ⊕_lt}
use Rattle.parity.proofs.Bytes.{each_place}
use Rattle.parity.proofs.Columns.{same_column, column_same}
use Rattle.parity.proofs.Stripes.{byte_lt}
use Rattle.changing.proofs.Changed.{parity_grown}
use Rattle.parity.proofs.Count.{count_cong, some_cong}
use Rattle.parity.proofs.Change.{depends_itself, depends_other, by_cell, data_stays, same_data_amounts, amounts_back, amounts_both, valid_amounts, amounts_valid, moved_along, moved_differs}
use Rattle.refusals.specs.declared.Refusal.{Refusal}
use Rattle.refusals.specs.declared.Refusal.TheVariants.{Unmendable}
use Rattle.refusals.specs.Refusals.{Verdict, pass, verdict_of, Gives}
use Rattle.refusals.proofs.Rules.{gives_one, gives_instead, not_both, answer_refused, answer_done}
use Rattle.inputs.specs.Rules.{unmendable, stripe_rules}
use Rattle.inputs.proofs.Stripe.{stripe_passed}
use Rattle.checking.specs.declared.checks.Checked.{Checked}
use Rattle.checking.specs.declared.locates.Located.{Located}
use Rattle.checking.specs.declared.locates.Located.TheVariants as located
use Rattle.evenodd.specs.Encodes.{Encodes}
use Rattle.checking.specs.Checks.{rows_of, diagonals_of, Checks}
use Rattle.checking.specs.Locates.{locate_rules, OneDiffers, Locates}
use Rattle.evenodd.specs.Changes.{change_rules, Changes}
use Rattle.end_to_end.specs.OneOrNothing.{RestoreGivesBack}
use Rattle.end_to_end.specs.OneChange.{Edited, SameBroken, ChangeAdds, ChangeAsEncode, ChangeKeepsBroken, ChangeKeepsBlame, ChangeBack, ChangesCommute, ChangeAgain, ChangeWhileAbsent}
use Rattle.end_to_end.proofs.OneOrNothing.{restore_gives_back}
use Rattle.end_to_end.proofs.OneWrong.{rewrite_leaves}
use Rattle.evenodd.proofs.ChangeLaws.{Fitting, change_given, change_passed}

-- where all that change asks is so, it is done
pub done : {m k b column row : ℕ} {cell s after : List ℕ} (q : Result ⊤ Refusal) → Fitting m k b column row cell s → Changes m k b column row cell s after q → q ≡ Ok tt
done {m} {k} {b} {column} {row} {cell} {s} q f p = answer_done (change_rules m k b column row cell s) q p.told (change_passed m k b column row cell s f)

-- and so it is of another stripe of that length
pub fits_other : {m k b column row : ℕ} {cell s v : List ℕ} → Fitting m k b column row cell s → length v ≡ length s → Fitting m k b column row cell v
fits_other f size = record { shape = f.shape; whole = size ∙ f.whole; datum = f.datum; real = f.real; full = f.full }

-- ---- what the cells get added

-- Two stripes with the same data but for the cell in row `row` of column `column`, which in the second holds `cell`, and with the same amounts: each cell that depends
-- on it has added what it changed by.
module _ (m k b column row : ℕ) (cell s v : List ℕ) (big : 1 < m) (few : k ≤ m) (inside : column < k) (real : row < m - 1)
    (new : (l : ℕ) → l < b → byte m b v l row column ≡ get_or cell l 0)
    (others : (l i t : ℕ) → l < b → i < m - 1 → t < k → (t ≡ column → i ≢ row) → byte m b v l i t ≡ byte m b s l i t)
    (same : SameAmounts m k b s v) where
  -- so have the data cells
  data_grown : (l i t : ℕ) → l < b → i < m - 1 → t < k → byte m b v l i t ≡ byte m b s l i t ⊕ cond (depends m k column row i t) (byte m b s l row column ⊕ get_or cell l 0) 0
  data_grown l i t hl hi ht = by_cell (byte m b v l i t ≡ byte m b s l i t ⊕ cond (depends m k column row i t) (byte m b s l row column ⊕ get_or cell l 0) 0) t i column row
      (λ e d. rw (e, d) (
      new l hl ∙ sym (⊕_cancel (byte m b s l row column) (get_or cell l 0))
      ∙ ap (λ (y : Bool). byte m b s l row column ⊕ cond y (byte m b s l row column ⊕ get_or cell l 0) 0) (sym (depends_itself m k column row inside row ∙ eq-eqb row row refl))))
      (λ other.
      others l i t hl hi ht other ∙ sym (⊕_zero (byte m b s l i t))
      ∙ ap (λ (y : Bool). byte m b s l i t ⊕ cond y (byte m b s l row column ⊕ get_or cell l 0) 0) (sym (depends_other m k column row inside i t ht other)))

  all_grown : (l i t : ℕ) → l < b → i < m - 1 → t < k + 2 → byte m b v l i t ≡ byte m b s l i t ⊕ cond (depends m k column row i t) (byte m b s l row column ⊕ get_or cell l 0) 0
  all_grown l i t hl hi ht =
      parity_grown m k column row (byte m b s l row column ⊕ get_or cell l 0) (lane m b s l) (lane m b v l) big few inside real
      (λ i t hi ht. data_grown l i t hl hi ht) (λ i hi. (same.rows l i hl hi, same.diagonals l i hl hi)) i t hi ht

pub change_adds : ChangeAdds
unfolding ChangeAdds
change_adds m k b column row cell s after p =
    let f = change_given m k b column row cell s p.told in
    all_grown m k b column row cell s after f.shape.value.prime.big f.shape.few f.datum f.real p.left.new (data_stays f.datum p.left) p.left.amounts

-- what is left is bytes where the stripe and the new cell were
pub left_stripe : (m k b column row : ℕ) (cell s after : List ℕ) → Changes m k b column row cell s after (Ok tt) → Stripe m k b s → ((l : ℕ) → get_or cell l 0 < 256) → Stripe m k b after
unfolding ChangeAdds
left_stripe m k b column row cell s after p st small = record {
  whole = whole;
  bytes = λ x. elim (dec_lt x (length after)) [
    | yes h ↦ each_place m k b f.shape.value.prime.big f.shape.filled (λ n. n < 256) after whole (λ l i t hl hi ht.
        rw (change_adds m k b column row cell s after p l i t hl hi ht) (⊕_lt _ _ (byte_lt m k b s st l i t) (either (depends m k column row i t) (⊕_lt _ _ (byte_lt m k b s st l row column) (small l))))) x h
    | no h ↦ rw (get_or-eq_default after 0 {n = x} (omega arith)) (omega arith)
  ];
}
  where
    f : Fitting m k b column row cell s
    f = change_given m k b column row cell s p.told

    whole : length after ≡ stripe_length m k b
    whole = p.left.size ∙ f.whole

    either : (y : Bool) {n : ℕ} → n < 256 → cond y n 0 < 256
    either true h = h
    either false h = omega arith

-- ---- a fresh encode

-- Of a valid stripe whose amounts stay, what is left is what encode makes of other data that is its own.
pub as_encode : (m k b : ℕ) (s after edited fresh : List ℕ) → Shape m k b → length after ≡ stripe_length m k b → length edited ≡ stripe_length m k b
    → Valid m k b s → SameAmounts m k b s after → ((l i t : ℕ) → l < b → i < m - 1 → t < k → byte m b after l i t ≡ byte m b edited l i t)
    → (q : Result ⊤ Refusal) → Encodes m k b edited fresh q → (q ≡ Ok tt) × (after ≡ fresh)
as_encode m k b s after edited fresh h left size valid same alike (Ok _) e = (
  refl,
  same_data_amounts m k b h.value.prime.big h.filled after fresh left e.written.0.stripe.whole
      (λ l i t hl hi ht. alike l i t hl hi ht ∙ same_column m b edited fresh t (e.written.1 t ht) l i hl hi)
      (amounts_both (amounts_back same) (valid_amounts valid e.written.0)),
)
as_encode m k b s after edited fresh h left size valid same alike (Err f) e =
    absurd (not_both (stripe_rules m k b (length edited)) f (stripe_passed m k b (length edited) h size) e.told)

pub change_as_encode : ChangeAsEncode
unfolding ChangeAsEncode
change_as_encode m k b column row cell s after edited fresh q valid p edit e =
    let f = change_given m k b column row cell s p.told in
    as_encode m k b s after edited fresh f.shape (p.left.size ∙ f.whole) (edit.size ∙ f.whole) valid p.left.amounts
    (λ l i t hl hi ht. by_cell (byte m b after l i t ≡ byte m b edited l i t) t i column row
    (λ c d. rw (c, d) (p.left.new l hl ∙ sym (edit.new l hl)))
    (λ other. data_stays f.datum p.left l i t hl hi ht other ∙ sym (edit.others l i t hl hi ht other))) q e

-- ---- damage

-- the counts are of the equations whose amounts are not zero
same_counts : (m k b : ℕ) (s v : List ℕ) → SameAmounts m k b s v → (broken_rows m k b s ≡ broken_rows m k b v) × (broken_diagonals m k b s ≡ broken_diagonals m k b v)
unfolding broken_rows broken_diagonals
same_counts m k b s v same = (
  count_cong (m - 1) (λ i hi. some_cong b (λ l hl. ap (λ x. not (eqb x 0)) (sym (same.rows l i hl hi)))),
  count_cong (m - 1) (λ i hi. some_cong b (λ l hl. ap (λ x. not (eqb x 0)) (sym (same.diagonals l i hl hi)))),
)

-- what check counts, where the rules let it pass
counts : (m k b : ℕ) (s : List ℕ) (r : Result Checked Refusal) → Gives (stripe_rules m k b (length s)) pass → Checks m k b s r → (rows_of r ≡ broken_rows m k b s) × (diagonals_of r ≡ broken_diagonals m k b s)
counts m k b s r passed p =
    let c = p.counted (gives_one (stripe_rules m k b (length s)) _ _ p.told passed) in
    (c.rows, c.diagonals)

-- so of stripes of one shape with the same amounts the same equations are broken, and check counts the same
module _ (m k b : ℕ) (s v : List ℕ) (shape : Shape m k b) (ps : length s ≡ stripe_length m k b) (pv : length v ≡ stripe_length m k b) (same : SameAmounts m k b s v) where
  pub same_broken : SameBroken m k b s v
  same_broken = record {
    rows = λ l i hl hi. (λ z. same.rows l i hl hi ∙ z, λ z. sym (same.rows l i hl hi) ∙ z);
    diagonals = λ l i hl hi. (λ z. same.diagonals l i hl hi ∙ z, λ z. sym (same.diagonals l i hl hi) ∙ z);
  }

  pub same_checks : (r q : Result Checked Refusal) → Checks m k b s r → Checks m k b v q → (rows_of r ≡ rows_of q) × (diagonals_of r ≡ diagonals_of q)
  same_checks r q cr cq =
      let x = counts m k b s r (stripe_passed m k b (length s) shape ps) cr in
      let y = counts m k b v q (stripe_passed m k b (length v) shape pv) cq in
      let e = same_counts m k b s v same in
      (x.0 ∙ e.0 ∙ sym y.0, x.1 ∙ e.1 ∙ sym y.1)

  -- and the one is valid exactly where the other is, if both are bytes
  pub keeps_broken : {Small : Type 0} → (Stripe m k b s → Small → Stripe m k b v)
      → SameBroken m k b s v
      × ((r q : Result Checked Refusal) → Checks m k b s r → Checks m k b v q → (rows_of r ≡ rows_of q) × (diagonals_of r ≡ diagonals_of q))
      × (Stripe m k b s → Small → Valid m k b s ↔ Valid m k b v)
  keeps_broken still = (same_broken, same_checks, λ st small. (λ x. amounts_valid x same (still st small), λ x. amounts_valid x (amounts_back same) st))

pub change_keeps_broken : ChangeKeepsBroken
unfolding ChangeKeepsBroken
change_keeps_broken m k b column row cell s after p =
    let f = change_given m k b column row cell s p.told in
    keeps_broken m k b s after f.shape f.whole (p.left.size ∙ f.whole) p.left.amounts (left_stripe m k b column row cell s after p)

-- one way: what is wrong with s is wrong with v
module _ (m k b : ℕ) (s v : List ℕ) (ps : Stripe m k b s) (pv : Stripe m k b v) (same : SameAmounts m k b s v) where
  -- a valid stripe near to s has one near to v
  near_too : (other : List ℕ) → Valid m k b other → (w : List ℕ) × Valid m k b w × (differing m k b v w ≡ differing m k b s other)
  unfolding differing
  near_too other valid = let (w, vw, sums) = moved_along m k b s v other ps pv same valid in (w, vw, count_cong (k + 2) (moved_differs m k b s v other w sums))

  one_too : (u : ℕ) → OneDiffers m k b s u → OneDiffers m k b v u
  one_too u o =
      let (w, vw, sums) = moved_along m k b s v o.other ps pv same o.valid in
      record { inside = o.inside; other = w; valid = vw; differ = record { at = λ t ht. moved_differs m k b s v o.other w sums t ht ∙ o.differ.at t ht } }

-- so the rules of locate give the same of both
module _ (m k b : ℕ) (s v : List ℕ) (ps : Stripe m k b s) (pv : Stripe m k b v) (same : SameAmounts m k b s v) where
  same_rules : {x : Verdict} → Gives (locate_rules m k b s) x → Gives (locate_rules m k b v) x
  same_rules {x} g = gives_instead (stripe_rules m k b (length v)) (unmendable m k b s ∷ []) (unmendable m k b v ∷ []) x instead (rw (ps.whole ∙ sym pv.whole) at g)
    where
      instead : Gives (unmendable m k b s ∷ []) x → Gives (unmendable m k b v ∷ []) x
      instead (inl c) = inl (λ w vw few. let (o, vo, e) = near_too m k b v s pv ps (amounts_back same) w vw in c.0 o vo (rw e few), c.1)
      instead (inr c) = inr (λ d. c.0 (λ w vw few. let (o, vo, e) = near_too m k b s v ps pv same w vw in d o vo (rw e few)), c.1)

  still_named : (r q : Result Located Refusal) → Locates m k b s r → Locates m k b v q → (u : ℕ) → r ≡ Ok (located.Column u) → q ≡ Ok (located.Column u)
  still_named r q pr pq u e =
      let passes : verdict_of r ≡ pass = ap verdict_of e in
      let answered : verdict_of q ≡ verdict_of r = gives_one (locate_rules m k b v) _ _ pq.told (same_rules pr.told) in
      ((pq.found (answered ∙ passes)).named u).1 (one_too m k b s v ps pv same u (((pr.found passes).named u).0 e))

  still_six : (r q : Result Located Refusal) → Locates m k b s r → Locates m k b v q → r ≡ Err Unmendable → q ≡ Err Unmendable
  still_six r q pr pq e = answer_refused (locate_rules m k b v) q pq.told (same_rules (rw e at pr.told))

-- so locate says the same of both
pub same_blame : (m k b : ℕ) (s v : List ℕ) (r q : Result Located Refusal) → Stripe m k b s → Stripe m k b v → SameAmounts m k b s v → Locates m k b s r → Locates m k b v q
    → ((u : ℕ) → (r ≡ Ok (located.Column u)) ↔ (q ≡ Ok (located.Column u))) × ((r ≡ Err Unmendable) ↔ (q ≡ Err Unmendable))
same_blame m k b s v r q ps pv same pr pq =
    let other = amounts_back same in (
      λ u. (still_named m k b s v ps pv same r q pr pq u, still_named m k b v s pv ps other q r pq pr u),
      (still_six m k b s v ps pv same r q pr pq, still_six m k b v s pv ps other q r pq pr),
    )

pub change_keeps_blame : ChangeKeepsBlame
unfolding ChangeKeepsBlame
change_keeps_blame m k b column row cell s after r q ps small p pr pq =
    same_blame m k b s after r q ps (left_stripe m k b column row cell s after p ps small) p.left.amounts pr pq

-- ---- change after change

pub change_back : ChangeBack
unfolding ChangeBack
change_back m k b column row cell held s after back q p size held_is w =
    let e = done q again w in (e, go (rw e at w))
  where
    f : Fitting m k b column row cell s
    f = change_given m k b column row cell s p.told

    again : Fitting m k b column row held after
    again = record { shape = f.shape; whole = p.left.size ∙ f.whole; datum = f.datum; real = f.real; full = size }

    go : Changes m k b column row held after back (Ok tt) → back ≡ s
    go w =
        same_data_amounts m k b f.shape.value.prime.big f.shape.filled back s (w.left.size ∙ p.left.size ∙ f.whole) f.whole
        (λ l i t hl hi ht. by_cell (byte m b back l i t ≡ byte m b s l i t) t i column row
        (λ c d. rw (c, d) (w.left.new l hl ∙ held_is l hl))
        (λ other. data_stays f.datum w.left l i t hl hi ht other ∙ data_stays f.datum p.left l i t hl hi ht other))
        (amounts_back (amounts_both p.left.amounts w.left.amounts))

pub changes_commute : ChangesCommute
unfolding ChangesCommute
changes_commute m k b column row column' row' cell cell' s one two both other r q apart p p' w w' =
    let e = done r again w in
    let d = done q again' w' in
    (e, d, go (rw e at w) (rw d at w'))
  where
    f : Fitting m k b column row cell s
    f = change_given m k b column row cell s p.told

    f' : Fitting m k b column' row' cell' s
    f' = change_given m k b column' row' cell' s p'.told

    again : Fitting m k b column' row' cell' one
    again = fits_other f' p.left.size

    again' : Fitting m k b column row cell two
    again' = fits_other f p'.left.size

    go : Changes m k b column' row' cell' one both (Ok tt) → Changes m k b column row cell two other (Ok tt) → both ≡ other
    go w w' =
        same_data_amounts m k b f.shape.value.prime.big f.shape.filled both other (w.left.size ∙ p.left.size ∙ f.whole) (w'.left.size ∙ p'.left.size ∙ f.whole)
        (λ l i t hl hi ht. by_cell (byte m b both l i t ≡ byte m b other l i t) t i column row
        -- the first cell, which the second change leaves
        (λ c d. rw (c, d) (data_stays f'.datum w.left l row column hl f.real f.datum apart ∙ p.left.new l hl ∙ sym (w'.left.new l hl)))
        (λ first. by_cell (byte m b both l i t ≡ byte m b other l i t) t i column' row'
        -- the second, which the first leaves
        (λ c d. rw (c, d) (
        w.left.new l hl ∙ sym (data_stays f.datum w'.left l row' column' hl f'.real f'.datum (λ a e. apart (sym a) (sym e)) ∙ p'.left.new l hl)))
        -- another
        (λ second.
        data_stays f'.datum w.left l i t hl hi ht second ∙ data_stays f.datum p.left l i t hl hi ht first
        ∙ sym (data_stays f.datum w'.left l i t hl hi ht first ∙ data_stays f'.datum p'.left l i t hl hi ht second))))
        (amounts_both (amounts_back (amounts_both p.left.amounts w.left.amounts)) (amounts_both p'.left.amounts w'.left.amounts))

-- ---- with a wrong column

pub change_again : ChangeAgain
unfolding ChangeAgain ChangeAsEncode
change_again m k b u column row cell v s after left again edited fresh q r valid ps small inside agrees p w p' edit enc =
    let (w_done, is) = rewrite_leaves m k b u f.shape inside after moved.0 left pv.whole moved.1 but_u q w in
    let r_done = done r (fits is) p' in
    (w_done, r_done, (change_as_encode m k b column row cell left again edited fresh (Ok tt) (rw is moved.1) (rw r_done at p') (still is) enc).1)
  where
    f : Fitting m k b column row cell s
    f = change_given m k b column row cell s p.told

    pv : Stripe m k b after
    pv = left_stripe m k b column row cell s after p ps small

    -- the valid stripe that is to what change left what v is to s
    moved : (w : List ℕ) × Valid m k b w × ((l i t : ℕ) → l < b → i < m - 1 → t < k + 2 → byte m b w l i t ≡ byte m b v l i t ⊕ (byte m b s l i t ⊕ byte m b after l i t))
    moved = moved_along m k b s after v ps pv p.left.amounts valid

    -- it has what is left in every column but u
    but_u : AgreesBut m k b u after moved.0
    but_u = record {
      at = λ t ht ne. column_same m b after moved.0 t (λ l i hl hi.
          sym (⊕_cancel (byte m b s l i t) (byte m b after l i t))
          ∙ ap (λ (x : ℕ). x ⊕ (byte m b s l i t ⊕ byte m b after l i t)) (same_column m b s v t (agrees.at t ht ne) l i hl hi)
          ∙ sym (moved.2 l i t hl hi ht));
    }

    fits : left ≡ moved.0 → Fitting m k b column row cell left
    fits is = fits_other f (ap length is ∙ moved.1.stripe.whole ∙ sym f.whole)

    -- and of the data v's cells, but the one
    still : left ≡ moved.0 → Edited m k b column row cell left edited
    still is = record {
      size = edit.size ∙ valid.stripe.whole ∙ sym (ap length is ∙ moved.1.stripe.whole);
      new = edit.new;
      others = λ l i t hl hi ht other. edit.others l i t hl hi ht other ∙ sym (ap (λ (x : List ℕ). byte m b x l i t) is ∙ moved.2 l i t hl hi (omega arith)
          ∙ ap (λ (x : ℕ). byte m b v l i t ⊕ (byte m b s l i t ⊕ x)) (data_stays f.datum p.left l i t hl hi ht other)
          ∙ ap (λ (x : ℕ). byte m b v l i t ⊕ x) (⊕_self (byte m b s l i t)) ∙ ⊕_zero (byte m b v l i t));
    }

-- ---- with columns absent

pub change_while_absent : ChangeWhileAbsent
unfolding ChangeWhileAbsent ChangeAdds RestoreGivesBack
change_while_absent m k b column row map cell v s after edited fresh before bench r valid size agrees there p edit enc held truth clear few_absent rest =
    restore_gives_back m k b map edited fresh after before bench r enc (p.left.size ∙ f.whole ∙ sym fresh_valid.stripe.whole) (record {
      at = λ t ht here. column_same m b fresh after t (λ l i hl hi.
          added l i t hl hi ht
          ∙ ap₂ (λ x y. x ⊕ cond (depends m k column row i t) (y ⊕ get_or cell l 0) 0) (same_column m b v s t (agrees.at t ht here) l i hl hi) (same_column m b v s column (agrees.at column in_columns there) l row hl f.real)
          ∙ sym (change_adds m k b column row cell s after p l i t hl hi ht));
    }) held truth clear few_absent rest
  where
    f : Fitting m k b column row cell s
    f = change_given m k b column row cell s p.told

    fresh_valid : Valid m k b fresh
    fresh_valid = enc.written.0

    in_columns : column < k + 2
    in_columns = omega (arith, f.datum)

    -- encode of the edited data adds to the cells of the first stripe what a change would
    added : (l i t : ℕ) → l < b → i < m - 1 → t < k + 2 → byte m b fresh l i t ≡ byte m b v l i t ⊕ cond (depends m k column row i t) (byte m b v l row column ⊕ get_or cell l 0) 0
    added = all_grown m k b column row cell v fresh f.shape.value.prime.big f.shape.few f.datum f.real
        (λ l hl. sym (same_column m b edited fresh column (enc.written.1 column f.datum) l row hl f.real) ∙ edit.new l hl)
        (λ l i t hl hi ht other. sym (same_column m b edited fresh t (enc.written.1 t ht) l i hl hi) ∙ edit.others l i t hl hi ht other)
        (valid_amounts valid fresh_valid)
