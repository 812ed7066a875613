-- What changes answers and leaves. It is given a list of columns, a list of rows, and the new bytes of their cells end to end. Items count from 0: item n is the
-- cell whose column is number n of `columns` and whose row is number n of `rows`, and its new bytes are `new_cell b cells n`.
--   whole_rules      1, 12, 13, 2, 15: what is asked of all as a whole, which is the numbers and the lengths
--   change_rules_of   what item n is asked: what change asks of that cell and those bytes, of the stripe as it was given
--   ItemChanged     what change leaves where item n is what it is told
--   item_of          the number of the item that is refused, and 256 where none is
--   verdict_of       the verdict of an answer
--   Told            why it is refused: by `whole_rules`, and no item is named; or these pass, and the first item that change would refuse is named with its
--                   refusal. Done: neither is so
--   Left            what is left: done, the stripe with all items changed in list order, one at a time; refused, nothing changed
--   ChangesAll      `Told` and `Left`
use Rattle.std.specs.Prelude.{◌≡◌, List, ℕ, length, get_or, Result, Ok, Err, ⊤}
use Rattle.parity.specs.Change.{new_cell, InOrder}
use Rattle.inputs.specs.declared.lists.ListRefusal.{ListRefusal}
use Rattle.inputs.specs.declared.lists.ListRefusal.TheVariants.{Whole, Item}
use Rattle.refusals.specs.Refusals.{Verdict, pass, refuse, Rule, Gives, EachPasses, FirstRefused}
use Rattle.inputs.specs.Rules.{list_rules}
use Rattle.inputs.specs.Lists as lists
use Rattle.evenodd.specs.Changes.{change_rules, Changes}

abbrev pub whole_rules : ℕ → ℕ → ℕ → List ℕ → List ℕ → List ℕ → List ℕ → List Rule
whole_rules m k b columns rows cells s = list_rules m k b (length s) (length columns) (length rows) (length cells)

abbrev pub change_rules_of : ℕ → ℕ → ℕ → List ℕ → List ℕ → List ℕ → List ℕ → ℕ → List Rule
change_rules_of m k b columns rows cells s n = change_rules m k b (get_or columns n 0) (get_or rows n 0) (new_cell b cells n) s

abbrev pub ItemChanged : ℕ → ℕ → ℕ → List ℕ → List ℕ → List ℕ → ℕ → List ℕ → List ℕ → Type 0
ItemChanged m k b columns rows cells n s v = Changes m k b (get_or columns n 0) (get_or rows n 0) (new_cell b cells n) s v (Ok tt)

abbrev pub item_of : Result ⊤ ListRefusal → ℕ
item_of (Ok _) = 256
item_of (Err e) = lists.item_of e

abbrev pub verdict_of : Result ⊤ ListRefusal → Verdict
verdict_of (Ok _) = pass
verdict_of (Err e) = refuse (lists.refusal_of e)

abbrev pub Told : ℕ → ℕ → ℕ → List ℕ → List ℕ → List ℕ → List ℕ → Result ⊤ ListRefusal → Type 0
Told m k b columns rows cells s (Ok _) = Gives (whole_rules m k b columns rows cells s) pass × EachPasses (change_rules_of m k b columns rows cells s) (length columns)
Told m k b columns rows cells s (Err (Whole f)) = Gives (whole_rules m k b columns rows cells s) (refuse f)
Told m k b columns rows cells s (Err (Item n f)) = Gives (whole_rules m k b columns rows cells s) pass × FirstRefused (change_rules_of m k b columns rows cells s) (length columns) n f

abbrev pub Left : ℕ → ℕ → ℕ → List ℕ → List ℕ → List ℕ → List ℕ → List ℕ → Result ⊤ ListRefusal → Type 0
Left m k b columns rows cells before after (Ok _) = InOrder (ItemChanged m k b columns rows cells) (length columns) before after
Left m k b columns rows cells before after (Err (Whole f)) = after ≡ before
Left m k b columns rows cells before after (Err (Item n f)) = after ≡ before

pub record ChangesAll (m k b : ℕ) (columns rows cells before after : List ℕ) (r : Result ⊤ ListRefusal) : Type 0 where
  pub told : Told m k b columns rows cells before r
  pub left : Left m k b columns rows cells before after r
