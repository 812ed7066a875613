-- The rules of refusal, each once and by name, and the orders in which calls ask them. The refusal of the first rule that applies is given.
--   wrong_m m                      1: m is no odd prime from 3 to 127
--   stripe_length_differs m k b n   2: a stripe is not n bytes
--   bench_length_differs m b n      3: a bench is not n bytes
--   too_many_absent k map           4: three or more columns are absent
--   contradicted m k b map s      5: no valid stripe agrees with every present column of s
--   contradicted_but m k b u s     5: no valid stripe agrees with every column of s but u
--   unmendable m k b s            6: no valid stripe differs from s in at most one column
--   no_such_column k column         7: the shape has no column of that number
--   no_data_column k column         7: the shape has no data column of that number
--   stray_column k map             9: a place at or above k + 2 is present
--   no_such_row m row               11: a column has no row of that number
--   wrong_k m k                    12: k is 0 or above m
--   wrong_b b                      13: b is 0 or above 4,096
--   cell_length_differs b n         14: a cell is not n bytes
--   wrong_lists b n rows cells     15: of lists of n columns, so many rows and so many new bytes, the first two differ in length or hold more than 256 items, or the
--                                 bytes are not b for each item
-- 17, and the 7 of marking a place, stand with the map (`lying_map`, `no_such_place` and `place_rules`, in crates/maps/specs/Rules.antt), 8 with the shelf image's
-- format, and 10 with the program. The orders:
--   shape_rules     1, 12, 13: asked first by every call that is given a shape, and by the readers of an image of its header. They let exactly
--                  the shapes pass (`ShapesPass`)
--   stripe_rules    1, 12, 13, 2: encode and check
--   map_rules       17, 9: what a map of columns is asked
--   lent_rules      1, 12, 13, 2, 3, 17, 9: what a map, a stripe and a bench are asked first
--   gap_rules       1, 12, 13, 2, 3, 17, 9, 4
--   restore_rules   1, 12, 13, 2, 3, 17, 9, 4, 5
--   show_rules      1, 12, 13, 2, 3, 17, 9, 7, 4
--   list_rules      1, 12, 13, 2, 15: what lists of cells are asked as a whole
--   item_rules      7, 11: what each of their items is asked
-- Those of locate, rewrite and change, which begin with `stripe_rules`, stand with their promises, and those of an image's readers with the format.
use Rattle.std.specs.Prelude.{◌≡◌, ◌≢◌, ◌⊎◌, List, [], ◌∷◌, ◌++◌, ℕ, ◌+◌, ◌-◌, ◌*◌, ◌≤◌, ◌<◌, length}
use Rattle.parity.specs.Shape.{OddPrime, stripe_length, bench_length}
use Rattle.parity.specs.Stripe.{Valid}
use Rattle.parity.specs.Presence.{absences, differing, Agrees, AgreesBut}
use Rattle.maps.specs.declared.Map.{Map}
use Rattle.refusals.specs.declared.Refusal.TheVariants as refusal
use Rattle.refusals.specs.Refusals.{Rule}
use Rattle.maps.specs.Absent.{Stray}
use Rattle.maps.specs.Rules.{lying_map}

abbrev pub wrong_m : ℕ → Rule
wrong_m m = record { condition = OddPrime m → ⊥; refusal = refusal.WrongM }

abbrev pub stripe_length_differs : ℕ → ℕ → ℕ → ℕ → Rule
stripe_length_differs m k b n = record { condition = n ≢ stripe_length m k b; refusal = refusal.StripeLength }

abbrev pub bench_length_differs : ℕ → ℕ → ℕ → Rule
bench_length_differs m b n = record { condition = n ≢ bench_length m b; refusal = refusal.BenchLength }

abbrev pub too_many_absent : ℕ → Map → Rule
too_many_absent k map = record { condition = 3 ≤ absences k map.places; refusal = refusal.Ambiguous }

abbrev pub contradicted : ℕ → ℕ → ℕ → Map → List ℕ → Rule
contradicted m k b map s = record { condition = (v : List ℕ) → Valid m k b v → Agrees m k b map.places s v → ⊥; refusal = refusal.Contradicted }

abbrev pub contradicted_but : ℕ → ℕ → ℕ → ℕ → List ℕ → Rule
contradicted_but m k b u s = record { condition = (v : List ℕ) → Valid m k b v → AgreesBut m k b u s v → ⊥; refusal = refusal.Contradicted }

abbrev pub unmendable : ℕ → ℕ → ℕ → List ℕ → Rule
unmendable m k b s = record { condition = (v : List ℕ) → Valid m k b v → differing m k b s v ≤ 1 → ⊥; refusal = refusal.Unmendable }

abbrev pub no_such_column : ℕ → ℕ → Rule
no_such_column k column = record { condition = k + 2 ≤ column; refusal = refusal.NoSuchColumn }

abbrev pub no_data_column : ℕ → ℕ → Rule
no_data_column k column = record { condition = k ≤ column; refusal = refusal.NoSuchColumn }

abbrev pub stray_column : ℕ → Map → Rule
stray_column k map = record { condition = Stray k map.places; refusal = refusal.StrayColumn }

abbrev pub no_such_row : ℕ → ℕ → Rule
no_such_row m row = record { condition = m - 1 ≤ row; refusal = refusal.NoSuchRow }

abbrev pub wrong_k : ℕ → ℕ → Rule
wrong_k m k = record { condition = (k ≡ 0) ⊎ (m < k); refusal = refusal.WrongK }

abbrev pub wrong_b : ℕ → Rule
wrong_b b = record { condition = (b ≡ 0) ⊎ (4096 < b); refusal = refusal.WrongB }

abbrev pub cell_length_differs : ℕ → ℕ → Rule
cell_length_differs b n = record { condition = n ≢ b; refusal = refusal.CellLength }

abbrev pub wrong_lists : ℕ → ℕ → ℕ → ℕ → Rule
wrong_lists b n rows cells = record { condition = (rows ≢ n) ⊎ (256 < n) ⊎ (cells ≢ n * b); refusal = refusal.WrongLists }

-- ---- the orders

abbrev pub shape_rules : ℕ → ℕ → ℕ → List Rule
shape_rules m k b = wrong_m m ∷ wrong_k m k ∷ wrong_b b ∷ []

abbrev pub stripe_rules : ℕ → ℕ → ℕ → ℕ → List Rule
stripe_rules m k b n = shape_rules m k b ++ (stripe_length_differs m k b n ∷ [])

abbrev pub map_rules : ℕ → Map → List Rule
map_rules k map = lying_map map ∷ stray_column k map ∷ []

abbrev pub lent_rules : ℕ → ℕ → ℕ → Map → ℕ → ℕ → List Rule
lent_rules m k b map n w = stripe_rules m k b n ++ (bench_length_differs m b w ∷ map_rules k map)

abbrev pub gap_rules : ℕ → ℕ → ℕ → Map → ℕ → ℕ → List Rule
gap_rules m k b map n w = lent_rules m k b map n w ++ (too_many_absent k map ∷ [])

abbrev pub restore_rules : ℕ → ℕ → ℕ → Map → List ℕ → ℕ → List Rule
restore_rules m k b map s w = gap_rules m k b map (length s) w ++ (contradicted m k b map s ∷ [])

abbrev pub show_rules : ℕ → ℕ → ℕ → Map → ℕ → ℕ → ℕ → List Rule
show_rules m k b map n w column = lent_rules m k b map n w ++ (no_such_column k column ∷ too_many_absent k map ∷ [])

abbrev pub list_rules : ℕ → ℕ → ℕ → ℕ → ℕ → ℕ → ℕ → List Rule
list_rules m k b n columns rows cells = stripe_rules m k b n ++ (wrong_lists b columns rows cells ∷ [])

abbrev pub item_rules : ℕ → ℕ → ℕ → ℕ → List Rule
item_rules m k column row = no_data_column k column ∷ no_such_row m row ∷ []
