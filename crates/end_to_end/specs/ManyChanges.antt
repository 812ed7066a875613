-- What follows of changes, which is given lists of cells.
--   ManyAsOneByOne     where it is done, calls of change with the items one at a time in list order, whatever they answer, leave what it leaves
--   ItemAsChange       where it refuses an item, change with that item alone is refused so, and with an item before it is done
--   SevenOrEleven      where it refuses an item, that is one of the list, and it is refused with 7 for its column, or else with 11 for its row
--   NothingToChange    an empty list with no bytes passes and changes nothing, and with bytes it is refused with 15
-- and where it is done:
--   LastValueStands    a cell of the data holds the bytes of the last item that names it, and one that no item names is as it was
--   ManyAsEncode       a valid stripe becomes what encode makes of its data with these cells edited in list order
--   ManyKeepBroken     every equation is broken by the amount by which it was; so check counts the same, and a stripe is valid exactly when it was
--   ManyKeepBlame      locate names the column that it named, or none as before, and gives 6 exactly where it did
use Rattle.std.specs.Prelude.{◌≡◌, ◌≢◌, ◌↔◌, ◌⊎◌, List, [], ℕ, ◌+◌, ◌-◌, ◌*◌, ◌≤◌, ◌<◌, length, get_or, Result, Ok, Err, ⊤}
use Rattle.parity.specs.Stripe.{byte, Stripe, Valid}
use Rattle.parity.specs.Change.{SameAmounts, new_cell, InOrder}
use Rattle.refusals.specs.declared.Refusal.{Refusal}
use Rattle.refusals.specs.declared.Refusal.TheVariants.{Unmendable, NoSuchColumn, NoSuchRow, WrongLists}
use Rattle.refusals.specs.Refusals.{pass, Gives}
use Rattle.inputs.specs.declared.lists.ListRefusal.{ListRefusal}
use Rattle.inputs.specs.declared.lists.ListRefusal.TheVariants.{Whole, Item}
use Rattle.inputs.specs.Rules.{stripe_rules}
use Rattle.checking.specs.declared.checks.Checked.{Checked}
use Rattle.checking.specs.declared.locates.Located.{Located}
use Rattle.checking.specs.declared.locates.Located.TheVariants as located
use Rattle.evenodd.specs.Encodes.{Encodes}
use Rattle.checking.specs.Checks.{rows_of, diagonals_of, Checks}
use Rattle.evenodd.specs.Changes.{Changes}
use Rattle.evenodd.specs.ChangesAll.{ChangesAll}
use Rattle.checking.specs.Locates.{Locates}
use Rattle.end_to_end.specs.OneChange.{Edited, SameBroken}

-- calls of change with the items 0 to n - 1, one after another, lead from s to v; what they answer is left open
abbrev pub CalledInOrder : ℕ → ℕ → ℕ → List ℕ → List ℕ → List ℕ → ℕ → List ℕ → List ℕ → Type 0
CalledInOrder m k b columns rows cells = InOrder (λ n s v. (q : Result ⊤ Refusal) × Changes m k b (get_or columns n 0) (get_or rows n 0) (new_cell b cells n) s v q)

unfoldable pub ManyAsOneByOne : Type 0
ManyAsOneByOne = (m k b : ℕ) (columns rows cells s after v : List ℕ) → ChangesAll m k b columns rows cells s after (Ok tt)
    → CalledInOrder m k b columns rows cells (length columns) s v → v ≡ after

unfoldable pub ItemAsChange : Type 0
ItemAsChange = (m k b item : ℕ) (columns rows cells s after : List ℕ) (f : Refusal) → ChangesAll m k b columns rows cells s after (Err (Item item f))
    → (n : ℕ) (v : List ℕ) (q : Result ⊤ Refusal) → Changes m k b (get_or columns n 0) (get_or rows n 0) (new_cell b cells n) s v q
    → (n < item → q ≡ Ok tt) × (n ≡ item → q ≡ Err f)

unfoldable pub SevenOrEleven : Type 0
SevenOrEleven = (m k b item : ℕ) (columns rows cells s after : List ℕ) (f : Refusal) → ChangesAll m k b columns rows cells s after (Err (Item item f))
    → (item < length columns) × (item < 256)
    × (((f ≡ NoSuchColumn) × (k ≤ get_or columns item 0)) ⊎ ((f ≡ NoSuchRow) × (get_or columns item 0 < k) × (m - 1 ≤ get_or rows item 0)))

unfoldable pub NothingToChange : Type 0
NothingToChange = (m k b : ℕ) (cells s after : List ℕ) (r : Result ⊤ ListRefusal) → Gives (stripe_rules m k b (length s)) pass → ChangesAll m k b [] [] cells s after r
    → (after ≡ s) × (length cells ≡ 0 → r ≡ Ok tt) × (length cells ≢ 0 → r ≡ Err (Whole WrongLists))

unfoldable pub LastValueStands : Type 0
LastValueStands = (m k b : ℕ) (columns rows cells s after : List ℕ) → ChangesAll m k b columns rows cells s after (Ok tt)
    → ((n l : ℕ) → n < length columns → l < b → ((i : ℕ) → n < i → i < length columns → get_or columns n 0 ≡ get_or columns i 0 → get_or rows n 0 ≢ get_or rows i 0)
    → byte m b after l (get_or rows n 0) (get_or columns n 0) ≡ get_or cells (n * b + l) 0)
    × ((l i t : ℕ) → l < b → i < m - 1 → t < k → ((n : ℕ) → n < length columns → t ≡ get_or columns n 0 → i ≢ get_or rows n 0)
    → byte m b after l i t ≡ byte m b s l i t)

unfoldable pub ManyAsEncode : Type 0
ManyAsEncode = (m k b : ℕ) (columns rows cells s after edited fresh : List ℕ) (q : Result ⊤ Refusal) → Valid m k b s → ChangesAll m k b columns rows cells s after (Ok tt)
    → InOrder (λ n. Edited m k b (get_or columns n 0) (get_or rows n 0) (new_cell b cells n)) (length columns) s edited → Encodes m k b edited fresh q
    → (q ≡ Ok tt) × (after ≡ fresh)

unfoldable pub ManyKeepBroken : Type 0
ManyKeepBroken = (m k b : ℕ) (columns rows cells s after : List ℕ) → ChangesAll m k b columns rows cells s after (Ok tt)
    → SameAmounts m k b s after × SameBroken m k b s after
    × ((r q : Result Checked Refusal) → Checks m k b s r → Checks m k b after q → (rows_of r ≡ rows_of q) × (diagonals_of r ≡ diagonals_of q))
    × (Stripe m k b s → ((x : ℕ) → get_or cells x 0 < 256) → Valid m k b s ↔ Valid m k b after)

unfoldable pub ManyKeepBlame : Type 0
ManyKeepBlame = (m k b : ℕ) (columns rows cells s after : List ℕ) (r q : Result Located Refusal) → Stripe m k b s → ((x : ℕ) → get_or cells x 0 < 256)
    → ChangesAll m k b columns rows cells s after (Ok tt) → Locates m k b s r → Locates m k b after q
    → ((u : ℕ) → (r ≡ Ok (located.Column u)) ↔ (q ≡ Ok (located.Column u))) × ((r ≡ Err Unmendable) ↔ (q ≡ Err Unmendable))
