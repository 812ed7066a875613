-- Laws of changes.
--   item_asked        what the tests of the lists say of an item is what change says of it
--   items_refused     what changes says where an item is refused
--   all_named         where none is, each names a cell of the data
--   all_changed       and where all are changed
use mathlib.Core.Path.{◌≡◌, refl, sym, subst, ◌∙◌}
use mathlib.Core.List.{List, [], ◌∷◌, ◌++◌}
use Prim.Native.Nat.{ℕ, ◌-◌, ◌<◌}
use lib.ListN.{length, get_or}
use Rattle.parity.specs.Shape.{Shape, stripe_length}
use Rattle.parity.specs.Change.{new_cell, CellChanged, CellsChanged}
use Rattle.parity.proofs.InOrder.{new_size, kept_along}
use Rattle.refusals.specs.declared.Refusal.{Refusal}
use Rattle.refusals.specs.Refusals.{Verdict, pass, refuse, Gives, EachPasses, FirstRefused}
use Rattle.refusals.proofs.Rules.{gives_next, gives_refused, gives_after, each_instead, first_instead}
use Rattle.inputs.specs.Rules.{cell_length_differs, list_rules, item_rules}
use Rattle.inputs.specs.Lists as lists
use Rattle.inputs.proofs.CellLists.{Lists, lists_passed, item_passes}
use Rattle.std.specs.Prelude.{Result, Ok, Err, ⊤, IsErrAnd}
use Rattle.inputs.specs.declared.lists.ListRefusal.{ListRefusal}
use Rattle.inputs.specs.declared.lists.ListRefusal.TheVariants.{Whole, Item}
use Rattle.evenodd.specs.ChangesAll.{change_rules_of, ItemChanged, ChangesAll}
use Rattle.evenodd.proofs.ChangeLaws.{change_told, change_passed}

module _ (m k b : ℕ) (columns rows cells s : List ℕ) where
  module _ (shape : Shape m k b) (whole : length s ≡ stripe_length m k b) (right : Lists b (length columns) (length rows) (length cells)) where
    item_asked : (i : ℕ) → i < length columns → (v : Verdict) → Gives (lists.rules_of m k columns rows i) v → Gives (change_rules_of m k b columns rows cells s i) v
    item_asked i h v g = change_told m k b (get_or columns i 0) (get_or rows i 0) (new_cell b cells i) s shape whole (longer v g)
      where
        longer : (v : Verdict) → Gives (lists.rules_of m k columns rows i) v → Gives (item_rules m k (get_or columns i 0) (get_or rows i 0) ++ (cell_length_differs b (length (new_cell b cells i)) ∷ [])) v
        longer pass g = gives_after (lists.rules_of m k columns rows i) (cell_length_differs b (length (new_cell b cells i)) ∷ []) pass g (gives_next (λ d. d (new_size b cells i (length columns) h right.full)) refl)
        longer (refuse f) g = gives_refused (lists.rules_of m k columns rows i) (cell_length_differs b (length (new_cell b cells i)) ∷ []) f g

    passed : Gives (list_rules m k b (length s) (length columns) (length rows) (length cells)) pass
    passed = lists_passed m k b (length s) (length columns) (length rows) (length cells) shape whole right

    one_refused : {item : ℕ} {f : Refusal} → FirstRefused (lists.rules_of m k columns rows) (length columns) item f → ChangesAll m k b columns rows cells s s (Err (Item item f))
    one_refused first = record { told = (passed, first_instead (lists.rules_of m k columns rows) (change_rules_of m k b columns rows cells s) (length columns) item_asked first); left = refl }

    -- r hands on why the items are refused
    pub items_refused : (r : Result ⊤ ListRefusal) (e : ListRefusal) → IsErrAnd r (λ g. g ≡ e) → lists.JudgesItems m k columns rows (Err e) → ChangesAll m k b columns rows cells s s r
    items_refused (Ok _) e h judged = absurd h
    items_refused (Err (Whole f)) e h judged = absurd (subst (λ e. lists.JudgesItems m k columns rows (Err e)) (sym h) judged)
    items_refused (Err (Item i f)) e h judged = one_refused (subst (λ e. lists.JudgesItems m k columns rows (Err e)) (sym h) judged)

    module _ (each : EachPasses (lists.rules_of m k columns rows) (length columns)) where
      pub all_named : (i : ℕ) → i < length columns → (get_or columns i 0 < k) × (get_or rows i 0 < m - 1)
      all_named i h = item_passes m k (get_or columns i 0) (get_or rows i 0) (each i h)

      -- a stripe of the same length: what is done to it in item i is what change does
      as_change : (i : ℕ) → i < length columns → (w v : List ℕ) → length w ≡ length s → CellChanged m k b (get_or columns i 0) (get_or rows i 0) (new_cell b cells i) w v
          → (length v ≡ length s) × ItemChanged m k b columns rows cells i w v
      as_change i h w v size changed = (
        changed.size ∙ size,
        record {
          told = change_passed m k b (get_or columns i 0) (get_or rows i 0) (new_cell b cells i) w (record {
            shape = shape;
            whole = size ∙ whole;
            datum = (all_named i h).0;
            real = (all_named i h).1;
            full = new_size b cells i (length columns) h right.full;
          });
          left = changed;
        },
      )

      pub all_changed : (after : List ℕ) → CellsChanged m k b columns rows cells (length columns) s after → ChangesAll m k b columns rows cells s after (Ok tt)
      all_changed after changed = record {
        told = (passed, each_instead (lists.rules_of m k columns rows) (change_rules_of m k b columns rows cells s) (length columns) item_asked each);
        left = (kept_along (λ w. length w ≡ length s) (λ i. CellChanged m k b (get_or columns i 0) (get_or rows i 0) (new_cell b cells i)) (ItemChanged m k b columns rows cells) (length columns) as_change s after refl changed).1;
      }
