-- What follows from the promise of changes. What one change keeps or leaves, a list of them does.
--   fits            an item of the list is one that change does of any stripe of that length
--   sized           so every stripe on the way has that length, and what calls of change leave, whatever they answer, is what changes leaves
--   left_size, still_stripe, same_along   what is left has the length of the stripe, is bytes where that is, and has its amounts
--   amounts_along, data_along   the amounts on the way, and the data of two that are edited alike
--   unnamed, last_named   what cells hold that no item names, or none after item n
use mathlib.Core.Path.{◌≡◌, refl, sym, ap, ◌∙◌}
use mathlib.Core.Logic.{◌≢◌, ◌⊎◌, inl, inr}
use mathlib.Core.List.{List, [], ◌∷◌}
use Prim.Native.Nat.{ℕ, zero, suc, ◌+◌, ◌-◌, ◌*◌, ◌≤◌, ◌<◌}
use native.Mathlib.Decide.{ℕ_discrete, dec_lt}
use native.Mathlib.Omega.{arith}
use lib.ListN.{length, get_or, get_or-eq_default}
use Rattle.std.specs.Prelude.{Result, Ok, Err, ⊤}
use Rattle.parity.specs.Shape.{Shape, stripe_length}
use Rattle.parity.specs.Stripe.{byte, Stripe}
use Rattle.parity.specs.Change.{SameAmounts, new_cell, InOrder}
use Rattle.parity.proofs.Change.{by_cell, data_stays, amounts_both}
use Rattle.parity.proofs.InOrder.{new_size, new_at, order_one, kept_along}
use Rattle.refusals.specs.declared.Refusal.{Refusal}
use Rattle.refusals.specs.declared.Refusal.TheVariants.{NoSuchColumn, NoSuchRow, WrongLists}
use Rattle.refusals.specs.Refusals.{pass, refuse, Rule, Gives, FirstRefused}
use Rattle.refusals.proofs.Rules.{refuse_one, gives_one, gives_first, gives_after, gives_rest, not_both, answer_refused, answer_done, last_rule}
use Rattle.inputs.specs.declared.lists.ListRefusal.{ListRefusal}
use Rattle.inputs.specs.declared.lists.ListRefusal.TheVariants.{Whole, Item}
use Rattle.inputs.specs.Rules.{wrong_lists, stripe_rules, list_rules}
use Rattle.inputs.proofs.Stripe.{stripe_passed, stripe_given}
use Rattle.inputs.proofs.CellLists.{Lists, lists_given, lists_passed}
use Rattle.evenodd.specs.Changes.{cell_rules, Changes}
use Rattle.evenodd.specs.ChangesAll.{change_rules_of, ItemChanged, ChangesAll}
use Rattle.evenodd.specs.Determined.{ChangesOne}
use Rattle.end_to_end.specs.OneChange.{Edited}
use Rattle.end_to_end.specs.ManyChanges.{CalledInOrder, ManyAsOneByOne, ItemAsChange, SevenOrEleven, NothingToChange, LastValueStands, ManyAsEncode, ManyKeepBroken, ManyKeepBlame}
use Rattle.evenodd.proofs.ChangeLaws.{Fitting, change_given}
use Rattle.evenodd.proofs.Determined.{changes_one}
use Rattle.end_to_end.proofs.OneChange.{done, fits_other, left_stripe, as_encode, keeps_broken, same_blame}

module _ (m k b : ℕ) (columns rows cells : List ℕ) where
  -- the steps on the way
  abbrev Step : ℕ → List ℕ → List ℕ → Type 0
  Step = ItemChanged m k b columns rows cells

  -- and of data that is edited
  abbrev Edit : ℕ → List ℕ → List ℕ → Type 0
  Edit i = Edited m k b (get_or columns i 0) (get_or rows i 0) (new_cell b cells i)

  -- each item's cell is one of the data, by what change asks of it
  step_fits : (i : ℕ) (w v : List ℕ) → Step i w v → Fitting m k b (get_or columns i 0) (get_or rows i 0) (new_cell b cells i) w
  step_fits i w v p = change_given m k b (get_or columns i 0) (get_or rows i 0) (new_cell b cells i) w p.told

  -- ---- amounts, and data that is edited alike

  amounts_along : (n : ℕ) (s v : List ℕ) → InOrder Step n s v → SameAmounts m k b s v
  unfolding InOrder
  amounts_along zero s v p = rw p (amounts_self s)
    where
      amounts_self : (s : List ℕ) → SameAmounts m k b s s
      amounts_self s = record { rows = λ l i hl hi. refl; diagonals = λ l i hl hi. refl }
  amounts_along (suc n) s v (w, p, last) = amounts_both (amounts_along n s w p) last.left.amounts

  data_along : (n : ℕ) (s v e : List ℕ) → InOrder Step n s v → InOrder Edit n s e
      → (l i t : ℕ) → l < b → i < m - 1 → t < k → byte m b v l i t ≡ byte m b e l i t
  unfolding InOrder
  data_along zero s v e p q l i t hl hi ht = ap (λ (x : List ℕ). byte m b x l i t) (p ∙ sym q)
  data_along (suc n) s v e (w, p, last) (x, q, edit) l i t hl hi ht = by_cell (byte m b v l i t ≡ byte m b e l i t) t i (get_or columns n 0) (get_or rows n 0)
      (λ c d. rw (c, d) (last.left.new l hl ∙ sym (edit.new l hl)))
      (λ other.
      data_stays (step_fits n w v last).datum last.left l i t hl hi ht other ∙ data_along n s w x p q l i t hl hi ht ∙ sym (edit.others l i t hl hi ht other))

  -- ---- what cells hold

  unnamed : (n : ℕ) (s v : List ℕ) → InOrder Step n s v → (l i t : ℕ) → l < b → i < m - 1 → t < k → ((j : ℕ) → j < n → t ≡ get_or columns j 0 → i ≢ get_or rows j 0)
      → byte m b v l i t ≡ byte m b s l i t
  unfolding InOrder
  unnamed zero s v p l i t hl hi ht other = ap (λ (x : List ℕ). byte m b x l i t) p
  unnamed (suc n) s v (w, p, last) l i t hl hi ht other =
      data_stays (step_fits n w v last).datum last.left l i t hl hi ht (other n (omega arith)) ∙ unnamed n s w p l i t hl hi ht (λ j h. other j (omega arith))

  last_named : (n : ℕ) (s v : List ℕ) → InOrder Step n s v → (j l : ℕ) → j < n → l < b → get_or columns j 0 < k → get_or rows j 0 < m - 1
      → ((i : ℕ) → j < i → i < n → get_or columns j 0 ≡ get_or columns i 0 → get_or rows j 0 ≢ get_or rows i 0)
      → byte m b v l (get_or rows j 0) (get_or columns j 0) ≡ get_or (new_cell b cells j) l 0
  unfolding InOrder
  last_named zero s v p j l hj hl column row later = absurd (omega arith)
  last_named (suc n) s v (w, p, last) j l hj hl column row later = elim (ℕ_discrete j n) [
    | yes e ↦ rw e (last.left.new l hl)
    | no ne ↦ data_stays (step_fits n w v last).datum last.left l (get_or rows j 0) (get_or columns j 0) hl row column (later n (omega arith) (omega arith))
        ∙ last_named n s w p j l (omega arith) hl column row (λ i hi below. later i hi (omega arith))
  ]

  -- ---- where changes is done

  module _ (s after : List ℕ) (p : ChangesAll m k b columns rows cells s after (Ok tt)) where
    asked : Shape m k b × (length s ≡ stripe_length m k b) × Lists b (length columns) (length rows) (length cells)
    asked = lists_given m k b (length s) (length columns) (length rows) (length cells) p.told.0

    fits : (i : ℕ) → i < length columns → (w : List ℕ) → length w ≡ length s → Fitting m k b (get_or columns i 0) (get_or rows i 0) (new_cell b cells i) w
    fits i h w size = fits_other (change_given m k b (get_or columns i 0) (get_or rows i 0) (new_cell b cells i) s (p.told.1 i h)) size

    sized : (v : List ℕ) → CalledInOrder m k b columns rows cells (length columns) s v → (length v ≡ length s) × InOrder Step (length columns) s v
    sized v called =
        kept_along (λ w. length w ≡ length s) (λ i w v. (q : Result ⊤ Refusal) × Changes m k b (get_or columns i 0) (get_or rows i 0) (new_cell b cells i) w v q) Step (length columns)
        (λ i h w v size call. let e = done call.0 (fits i h w size) call.1 in let c = rw e at call.1 in (c.left.size ∙ size, c)) s v refl called

    left_size : length after ≡ length s
    left_size = (kept_along (λ w. length w ≡ length s) Step Step (length columns) (λ i h w v size c. (c.left.size ∙ size, c)) s after refl p.left).0

    still_stripe : Stripe m k b s → ((x : ℕ) → get_or cells x 0 < 256) → Stripe m k b after
    still_stripe st small =
        (kept_along (Stripe m k b) Step Step (length columns)
        (λ i h w v ws c. (left_stripe m k b (get_or columns i 0) (get_or rows i 0) (new_cell b cells i) w v c ws (bytes i h), c)) s after st p.left).0
      where
        bytes : (i : ℕ) → i < length columns → (l : ℕ) → get_or (new_cell b cells i) l 0 < 256
        bytes i h l = elim (dec_lt l b) [
          | yes hl ↦ rw (new_at b cells i l hl) (small (i * b + l))
          | no hl ↦ rw (get_or-eq_default (new_cell b cells i) 0 {n = l} (omega (arith, new_size b cells i (length columns) h asked.2.full))) (omega arith)
        ]

    same_along : SameAmounts m k b s after
    same_along = amounts_along (length columns) s after p.left

pub many_as_one_by_one : ManyAsOneByOne
unfolding ManyAsOneByOne ChangesOne
many_as_one_by_one m k b columns rows cells s after v p called =
    order_one (ItemChanged m k b columns rows cells) (length columns) (λ i hi w x y a c. (changes_one m k b _ _ _ w x y (Ok tt) (Ok tt) a c).1) s v after
    (sized m k b columns rows cells s after p v called).1 p.left

pub last_value_stands : LastValueStands
unfolding LastValueStands
last_value_stands m k b columns rows cells s after p = (
  λ n l h hl later.
      let f = fits m k b columns rows cells s after p n h s refl in
      last_named m k b columns rows cells (length columns) s after p.left n l h hl f.datum f.real later ∙ new_at b cells n l hl,
  unnamed m k b columns rows cells (length columns) s after p.left,
)

pub many_as_encode : ManyAsEncode
unfolding ManyAsEncode
many_as_encode m k b columns rows cells s after edited fresh q valid p edits e =
    let (shape, whole, lists) = asked m k b columns rows cells s after p in
    let edit = Edit m k b columns rows cells in
    let size : length edited ≡ length s = (kept_along (λ w. length w ≡ length s) edit edit (length columns) (λ i h w v same c. (c.size ∙ same, c)) s edited refl edits).0 in
    as_encode m k b s after edited fresh shape (left_size m k b columns rows cells s after p ∙ whole) (size ∙ whole) valid
    (same_along m k b columns rows cells s after p)
    (data_along m k b columns rows cells (length columns) s after edited p.left edits) q e

pub many_keep_broken : ManyKeepBroken
unfolding ManyKeepBroken
many_keep_broken m k b columns rows cells s after p =
    let (shape, whole, lists) = asked m k b columns rows cells s after p in
    let same = same_along m k b columns rows cells s after p in
    let left = left_size m k b columns rows cells s after p ∙ whole in
    let (broken, counted, valid) = keeps_broken m k b s after shape whole left same (still_stripe m k b columns rows cells s after p) in
    (same, broken, counted, valid)

pub many_keep_blame : ManyKeepBlame
unfolding ManyKeepBlame
many_keep_blame m k b columns rows cells s after r q ps small p pr pq =
    same_blame m k b s after r q ps (still_stripe m k b columns rows cells s after p ps small) (same_along m k b columns rows cells s after p) pr pq

-- ---- where an item is refused

pub item_as_change : ItemAsChange
unfolding ItemAsChange
item_as_change m k b item columns rows cells s after f p n v q call = (
  λ h. answer_done (change_rules_of m k b columns rows cells s n) q call.told (p.told.1.before n h),
  λ e. answer_refused (change_rules_of m k b columns rows cells s n) q call.told (rw e p.told.1.refused),
)

pub seven_or_eleven : SevenOrEleven
unfolding SevenOrEleven
seven_or_eleven m k b item columns rows cells s after f p =
    (first.inside, omega (arith, first.inside, asked'.2.few), why (gives_rest (stripe_rules m k b (length s)) (cell_rules m k b (get_or columns item 0) (get_or rows item 0) (length (new_cell b cells item))) (refuse f) stripe_fits first.refused))
  where
    first : FirstRefused (change_rules_of m k b columns rows cells s) (length columns) item f
    first = p.told.1

    asked' : Shape m k b × (length s ≡ stripe_length m k b) × Lists b (length columns) (length rows) (length cells)
    asked' = lists_given m k b (length s) (length columns) (length rows) (length cells) p.told.0

    stripe_fits : Gives (stripe_rules m k b (length s)) pass
    stripe_fits = stripe_passed m k b (length s) asked'.0 asked'.1

    why : Gives (cell_rules m k b (get_or columns item 0) (get_or rows item 0) (length (new_cell b cells item))) (refuse f)
        → ((f ≡ NoSuchColumn) × (k ≤ get_or columns item 0)) ⊎ ((f ≡ NoSuchRow) × (get_or columns item 0 < k) × (m - 1 ≤ get_or rows item 0))
    why (inl c) = inl (refuse_one f NoSuchColumn c.1, c.0)
    why (inr (n, inl c)) = inr (refuse_one f NoSuchRow c.1, omega (arith, n), c.0)
    why (inr (n, inr (o, rest))) = absurd ((last_rule rest).0 (new_size b cells item (length columns) first.inside asked'.2.full))

-- ---- an empty list

pub nothing_to_change : NothingToChange
unfolding NothingToChange InOrder
nothing_to_change m k b cells s after r fit p = go r p
  where
    rules : List Rule
    rules = list_rules m k b (length s) 0 0 (length cells)

    none : length cells ≡ 0 → Gives rules pass
    none e = let (shape, whole) = stripe_given m k b (length s) fit in lists_passed m k b (length s) 0 0 (length cells) shape whole (record { even = refl; few = omega arith; full = omega arith })

    some : length cells ≢ 0 → Gives rules (refuse WrongLists)
    some ne = gives_after (stripe_rules m k b (length s)) (wrong_lists b 0 0 (length cells) ∷ []) _ fit (gives_first (inr (inr (λ e. ne (omega arith)))))

    go : (r : Result ⊤ ListRefusal) → ChangesAll m k b [] [] cells s after r
        → (after ≡ s) × (length cells ≡ 0 → r ≡ Ok tt) × (length cells ≢ 0 → r ≡ Err (Whole WrongLists))
    go (Ok _) p = (p.left, λ e. refl, λ ne. absurd (not_both rules WrongLists p.told.0 (some ne)))
    go (Err (Whole f)) p = (
      p.left,
      λ e. absurd (not_both rules f (none e) p.told),
      λ ne. ap (λ x. Err (Whole x)) (refuse_one f WrongLists (gives_one rules _ _ p.told (some ne))),
    )
    go (Err (Item i f)) p = absurd (omega (arith, p.told.1.inside))
