-- Laws of the tests of lists.
--   ListNumbers, lists_good   what is known where the numbers, the stripe's length and those of the lists are right
--   lists_given, lists_passed   the rules pass exactly then; lists_refused: where the lists are not right
--   passes_item, item_passes    an item passes exactly where it names a cell of the data
--   before_pass, first_seven, first_eleven   the items before the first that names none pass, and why that one is refused
use mathlib.Core.Path.{◌≡◌, refl}
use mathlib.Core.Logic.{◌≢◌, ◌⊎◌, inl, inr}
use mathlib.Core.List.{List, [], ◌∷◌}
use Prim.Native.Nat.{ℕ, ◌-◌, ◌*◌, ◌≤◌, ◌<◌}
use native.Mathlib.Omega.{arith}
use lib.ListN.{length, get_or}
use Rattle.parity.specs.Shape.{Shape, stripe_length}
use Rattle.refusals.specs.declared.Refusal.TheVariants.{NoSuchColumn, NoSuchRow, WrongLists}
use Rattle.refusals.specs.Refusals.{pass, Gives, EachPasses, FirstRefused}
use Rattle.refusals.proofs.Rules.{gives_first, gives_next, gives_after, gives_passed, passed_first, equal_of}
use Rattle.std.specs.Prelude.{Ok, Err}
use Rattle.inputs.specs.Rules.{wrong_lists, stripe_rules, list_rules, item_rules}
use Rattle.inputs.specs.Lists.{JudgesLists, OfData, FirstOutside, rules_of}
use Rattle.inputs.proofs.Stripe.{stripe_passed, stripe_given}
use Rattle.inputs.proofs.Tests.{Numbers}

module _ (b n rows cells : ℕ) where
  -- what is asked of the lists
  pub record Lists : Type 0 where
    pub even : rows ≡ n
    pub few : n ≤ 256
    pub full : cells ≡ n * b

  pub lists_right : ((rows ≢ n) ⊎ (256 < n) ⊎ (cells ≢ n * b) → ⊥) → Lists
  lists_right ok = let few : 256 < n → ⊥ = λ many. ok (inr (inl many)) in
      record { even = equal_of rows n (λ d. ok (inl d)); few = omega arith; full = equal_of cells (n * b) (λ d. ok (inr (inr d))) }

  pub right_lists : Lists → (rows ≢ n) ⊎ (256 < n) ⊎ (cells ≢ n * b) → ⊥
  right_lists h (inl d) = d h.even
  right_lists h (inr (inl many)) = omega (arith, h.few)
  right_lists h (inr (inr d)) = d h.full

module _ (m k b n columns rows cells : ℕ) where
  pub record ListNumbers (c : ℕ) : Type 0 where
    pub numbers : Numbers m k b n c
    pub lists : Lists b columns rows cells

  pub lists_passed : Shape m k b → n ≡ stripe_length m k b → Lists b columns rows cells → Gives (list_rules m k b n columns rows cells) pass
  lists_passed h e ok = gives_after (stripe_rules m k b n) (wrong_lists b columns rows cells ∷ []) pass (stripe_passed m k b n h e) (gives_next (right_lists b columns rows cells ok) refl)

  pub lists_refused : Shape m k b → n ≡ stripe_length m k b → (rows ≢ columns) ⊎ (256 < columns) ⊎ (cells ≢ columns * b) → JudgesLists m k b n columns rows cells (Err WrongLists)
  lists_refused h e wrong = record { told = gives_after (stripe_rules m k b n) (wrong_lists b columns rows cells ∷ []) _ (stripe_passed m k b n h e) (gives_first wrong); column = tt }

  pub lists_given : Gives (list_rules m k b n columns rows cells) pass → Shape m k b × (n ≡ stripe_length m k b) × Lists b columns rows cells
  lists_given g =
      let (first, rest) = gives_passed (stripe_rules m k b n) (wrong_lists b columns rows cells ∷ []) g in
      let (shape, whole) = stripe_given m k b n first in
      (shape, whole, lists_right b columns rows cells (passed_first rest).0)

  pub lists_good : {c : ℕ} → JudgesLists m k b n columns rows cells (Ok c) → ListNumbers c
  lists_good h =
      let (shape, whole, lists) = lists_given h.told in
      record { numbers = record { shape = shape; column = h.column; stripe = whole }; lists = lists }

module _ (m k column row : ℕ) where
  pub passes_item : OfData m k column row → Gives (item_rules m k column row) pass
  passes_item (t, i) = gives_next (λ out. omega arith) (gives_next (λ out. omega arith) refl)

  pub item_passes : Gives (item_rules m k column row) pass → OfData m k column row
  item_passes g = let (t, rest) = passed_first g in let (i, _) = passed_first rest in (omega arith, omega arith)

-- the first item that names no cell of the data is n
module _ {m k : ℕ} {columns rows : List ℕ} {n : ℕ} (first : FirstOutside m k columns rows n) where
  pub before_pass : EachPasses (rules_of m k columns rows) n
  before_pass i h = passes_item m k (get_or columns i 0) (get_or rows i 0) (first.before i h)

  pub first_seven : n < length columns → k ≤ get_or columns n 0 → FirstRefused (rules_of m k columns rows) (length columns) n NoSuchColumn
  first_seven h out = record { inside = h; before = before_pass; refused = gives_first out }

  pub first_eleven : n < length columns → get_or columns n 0 < k → FirstRefused (rules_of m k columns rows) (length columns) n NoSuchRow
  first_eleven h t =
      let out : get_or rows n 0 < m - 1 → ⊥ = λ i. first.there h (t, i) in
      record { inside = h; before = before_pass; refused = gives_next (λ x. omega arith) (gives_first (omega arith)) }
