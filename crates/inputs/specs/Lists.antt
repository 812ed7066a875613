-- The tests of lists that name cells of a stripe's data. n is the length of a stripe; item i is column i of `columns` and row i of `rows`.
--   JudgesLists                three numbers, a stripe and three lengths, by `list_rules`
--   OfData m k column row      the data has a cell in that row of that column
--   FirstOutside               the first item that names none; how many items there are, where each names one
--   rules_of m k columns rows   what each item is asked
--   JudgesItems                the items, in their order: each passes, or the first that is refused, and why
--   item_of, refusal_of          of a refusal, the number of the item that it names, 256 where it names none, and the refusal itself
use Rattle.std.specs.Prelude.{List, ℕ, ◌-◌, ◌≤◌, ◌<◌, length, get_or, Result, Ok, Err, ⊤}
use Rattle.inputs.specs.declared.lists.ListRefusal.{ListRefusal}
use Rattle.inputs.specs.declared.lists.ListRefusal.TheVariants.{Whole, Item}
use Rattle.refusals.specs.declared.Refusal.{Refusal}
use Rattle.refusals.specs.Refusals.{verdict_of, Rule, Gives, EachPasses, FirstRefused}
use Rattle.inputs.specs.Rules.{list_rules, item_rules}
use Rattle.inputs.specs.Shapes.{good_column}

pub record JudgesLists (m k b n columns rows cells : ℕ) (r : Result ℕ Refusal) : Type 0 where
  pub told : Gives (list_rules m k b n columns rows cells) (verdict_of r)
  pub column : good_column m b r

abbrev pub OfData : ℕ → ℕ → ℕ → ℕ → Type 0
OfData m k column row = (column < k) × (row < m - 1)

pub record FirstOutside (m k : ℕ) (columns rows : List ℕ) (n : ℕ) : Type 0 where
  pub within : n ≤ length columns
  pub before : (i : ℕ) → i < n → OfData m k (get_or columns i 0) (get_or rows i 0)
  pub there : n < length columns → OfData m k (get_or columns n 0) (get_or rows n 0) → ⊥

abbrev pub rules_of : ℕ → ℕ → List ℕ → List ℕ → ℕ → List Rule
rules_of m k columns rows i = item_rules m k (get_or columns i 0) (get_or rows i 0)

abbrev pub JudgesItems : ℕ → ℕ → List ℕ → List ℕ → Result ⊤ ListRefusal → Type 0
JudgesItems m k columns rows (Ok _) = EachPasses (rules_of m k columns rows) (length columns)
JudgesItems m k columns rows (Err (Whole f)) = ⊥
JudgesItems m k columns rows (Err (Item item f)) = FirstRefused (rules_of m k columns rows) (length columns) item f

abbrev pub item_of : ListRefusal → ℕ
item_of (Whole f) = 256
item_of (Item n f) = n

abbrev pub refusal_of : ListRefusal → Refusal
refusal_of (Whole f) = f
refusal_of (Item n f) = f
