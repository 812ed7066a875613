-- What follows where change is done.
--   ChangeAdds         every cell that depends on the changed one has added what that changed by, and every other cell nothing
--   ChangeAsEncode     a valid stripe becomes what encode makes of its data with that cell edited
--   ChangeKeepsBroken  exactly the equations that were broken are broken afterwards, in every lane; so check counts the same, and a stripe is valid exactly
--                      when it was
--   ChangeKeepsBlame   locate names the column that it named, or none as before, and gives 6 exactly where it did
--   ChangeBack         changed back to the bytes that it held, the cell gives the stripe back
--   ChangesCommute     two changes of different cells leave the same in either order
--   ChangeAgain        of a stripe with one wrong column a cell is changed, that column is rewritten, and the same change made again: this gives what
--                      encode makes of the data with that cell edited
--   ChangeWhileAbsent  at most two columns of a valid stripe are absent, whatever stands in their places, and the cell's own is none of them: a change,
--                      and then restore, give what encode makes of the data with that cell edited
use Rattle.std.specs.Prelude.{◌≡◌, ◌≢◌, ◌↔◌, true, cond, List, ℕ, ◌+◌, ◌-◌, ◌≤◌, ◌<◌, length, get_or, Result, Ok, Err, ⊤}
use Rattle.parity.specs.Shape.{bench_length}
use Rattle.parity.specs.Xor.{◌⊕◌}
use Rattle.parity.specs.Equations.{amount_h, amount_d}
use Rattle.parity.specs.Stripe.{byte, lane, Stripe, Valid}
use Rattle.parity.specs.Presence.{present, absences, Agrees, AgreesBut}
use Rattle.parity.specs.Change.{depends}
use Rattle.maps.specs.declared.Gaps.{Gaps}
use Rattle.maps.specs.declared.Map.{Map}
use Rattle.refusals.specs.declared.Refusal.{Refusal}
use Rattle.refusals.specs.declared.Refusal.TheVariants.{Unmendable}
use Rattle.maps.specs.Absent.{Stray}
use Rattle.maps.specs.Truth.{TrueMap}
use Rattle.checking.specs.declared.checks.Checked.{Checked}
use Rattle.checking.specs.declared.locates.Located.{Located}
use Rattle.checking.specs.declared.locates.Located.TheVariants as located
use Rattle.evenodd.specs.Encodes.{Encodes}
use Rattle.checking.specs.Checks.{rows_of, diagonals_of, Checks}
use Rattle.evenodd.specs.Changes.{Changes}
use Rattle.evenodd.specs.Restores.{Restores}
use Rattle.checking.specs.Locates.{Locates}
use Rattle.evenodd.specs.Rewrites.{Rewrites}
use Rattle.end_to_end.specs.OneOrNothing.{GivenBack}

unfoldable pub ChangeAdds : Type 0
ChangeAdds = (m k b column row : ℕ) (cell s after : List ℕ) → Changes m k b column row cell s after (Ok tt) → (l i t : ℕ) → l < b → i < m - 1 → t < k + 2
    → byte m b after l i t ≡ byte m b s l i t ⊕ cond (depends m k column row i t) (byte m b s l row column ⊕ get_or cell l 0) 0

-- the data of `edited` is that of s, but that the cell in row `row` of column `column` holds the bytes of `cell`; what its H and D hold is left open
pub record Edited (m k b column row : ℕ) (cell s edited : List ℕ) : Type 0 where
  pub size : length edited ≡ length s
  pub new : (l : ℕ) → l < b → byte m b edited l row column ≡ get_or cell l 0
  pub others : (l i t : ℕ) → l < b → i < m - 1 → t < k → (t ≡ column → i ≢ row) → byte m b edited l i t ≡ byte m b s l i t

unfoldable pub ChangeAsEncode : Type 0
ChangeAsEncode = (m k b column row : ℕ) (cell s after edited fresh : List ℕ) (q : Result ⊤ Refusal) → Valid m k b s → Changes m k b column row cell s after (Ok tt)
    → Edited m k b column row cell s edited → Encodes m k b edited fresh q → (q ≡ Ok tt) × (after ≡ fresh)

-- the same equations are broken in s and in v
pub record SameBroken (m k b : ℕ) (s v : List ℕ) : Type 0 where
  pub rows : (l i : ℕ) → l < b → i < m - 1 → (amount_h m k (lane m b s l) i ≡ 0) ↔ (amount_h m k (lane m b v l) i ≡ 0)
  pub diagonals : (l i : ℕ) → l < b → i < m - 1 → (amount_d m k (lane m b s l) i ≡ 0) ↔ (amount_d m k (lane m b v l) i ≡ 0)

unfoldable pub ChangeKeepsBroken : Type 0
ChangeKeepsBroken = (m k b column row : ℕ) (cell s after : List ℕ) → Changes m k b column row cell s after (Ok tt)
    → SameBroken m k b s after
    × ((r q : Result Checked Refusal) → Checks m k b s r → Checks m k b after q → (rows_of r ≡ rows_of q) × (diagonals_of r ≡ diagonals_of q))
    × (Stripe m k b s → ((l : ℕ) → get_or cell l 0 < 256) → Valid m k b s ↔ Valid m k b after)

unfoldable pub ChangeKeepsBlame : Type 0
ChangeKeepsBlame = (m k b column row : ℕ) (cell s after : List ℕ) (r q : Result Located Refusal) → Stripe m k b s → ((l : ℕ) → get_or cell l 0 < 256)
    → Changes m k b column row cell s after (Ok tt) → Locates m k b s r → Locates m k b after q
    → ((u : ℕ) → (r ≡ Ok (located.Column u)) ↔ (q ≡ Ok (located.Column u))) × ((r ≡ Err Unmendable) ↔ (q ≡ Err Unmendable))

unfoldable pub ChangeBack : Type 0
ChangeBack = (m k b column row : ℕ) (cell held s after back : List ℕ) (q : Result ⊤ Refusal) → Changes m k b column row cell s after (Ok tt)
    → length held ≡ b → ((l : ℕ) → l < b → get_or held l 0 ≡ byte m b s l row column) → Changes m k b column row held after back q
    → (q ≡ Ok tt) × (back ≡ s)

unfoldable pub ChangesCommute : Type 0
ChangesCommute = (m k b column row column' row' : ℕ) (cell cell' s one two both other : List ℕ) (r q : Result ⊤ Refusal) → (column ≡ column' → row ≢ row')
    → Changes m k b column row cell s one (Ok tt) → Changes m k b column' row' cell' s two (Ok tt)
    → Changes m k b column' row' cell' one both r → Changes m k b column row cell two other q
    → (r ≡ Ok tt) × (q ≡ Ok tt) × (both ≡ other)

unfoldable pub ChangeAgain : Type 0
ChangeAgain = (m k b u column row : ℕ) (cell v s after left again edited fresh : List ℕ) (q r : Result ⊤ Refusal) → Valid m k b v
    → Stripe m k b s → ((l : ℕ) → get_or cell l 0 < 256) → u < k + 2 → AgreesBut m k b u s v
    → Changes m k b column row cell s after (Ok tt) → Rewrites m k b u after left q → Changes m k b column row cell left again r
    → Edited m k b column row cell v edited → Encodes m k b edited fresh (Ok tt)
    → (q ≡ Ok tt) × (r ≡ Ok tt) × (again ≡ fresh)

unfoldable pub ChangeWhileAbsent : Type 0
ChangeWhileAbsent = (m k b column row : ℕ) (map : Map) (cell v s after edited fresh before bench : List ℕ) (r : Result Gaps Refusal) → Valid m k b v
    → length s ≡ length v → Agrees m k b map.places v s → present map.places column ≡ true → Changes m k b column row cell s after (Ok tt)
    → Edited m k b column row cell v edited → Encodes m k b edited fresh (Ok tt)
    → length before ≡ bench_length m b → TrueMap map → (Stray k map.places → ⊥) → absences k map.places ≤ 2
    → Restores m k b map after before bench r → GivenBack m b fresh before bench r
