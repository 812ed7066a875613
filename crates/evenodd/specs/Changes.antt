-- What change answers and leaves. It is told a data column and a row, and is given the bytes that the cell there is to hold.
--   cell_rules     7, 11, 14: what is asked of the column, the row and those bytes, which are n
--   change_rules   1, 12, 13, 2, 7, 11, 14
--   Left          what is left: done, the stripe with that cell changed (`CellChanged`); refused, nothing changed
--   Changes       refused by `change_rules`, and `Left`
use Rattle.std.specs.Prelude.{◌≡◌, List, [], ◌∷◌, ◌++◌, ℕ, length, Result, Ok, Err, ⊤}
use Rattle.parity.specs.Change.{CellChanged}
use Rattle.refusals.specs.declared.Refusal.{Refusal}
use Rattle.refusals.specs.Refusals.{verdict_of, Rule, Gives}
use Rattle.inputs.specs.Rules.{no_data_column, no_such_row, cell_length_differs, stripe_rules}

abbrev pub cell_rules : ℕ → ℕ → ℕ → ℕ → ℕ → ℕ → List Rule
cell_rules m k b column row n = no_data_column k column ∷ no_such_row m row ∷ cell_length_differs b n ∷ []

abbrev pub change_rules : ℕ → ℕ → ℕ → ℕ → ℕ → List ℕ → List ℕ → List Rule
change_rules m k b column row cell s = stripe_rules m k b (length s) ++ cell_rules m k b column row (length cell)

abbrev pub Left : ℕ → ℕ → ℕ → ℕ → ℕ → List ℕ → List ℕ → List ℕ → Result ⊤ Refusal → Type 0
Left m k b column row cell before after (Ok _) = CellChanged m k b column row cell before after
Left m k b column row cell before after (Err f) = after ≡ before

pub record Changes (m k b column row : ℕ) (cell before after : List ℕ) (r : Result ⊤ Refusal) : Type 0 where
  pub told : Gives (change_rules m k b column row cell before) (verdict_of r)
  pub left : Left m k b column row cell before after r
