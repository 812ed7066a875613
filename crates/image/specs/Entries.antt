-- The contents number by number, as the code looks at them: what the functions within this crate promise each other.
--   number4 image x                the number in the four bytes at x
--   entry_at t                      where entry t stands
--   says_present image t            whether the state byte of entry t is 1
--   Entry image t state offset     entry t is the number t, that state, a zero byte and that offset
--   RightEntry image t next        entry t is as it must be where the next body would begin at `next`
--   body_at image start column t    where the next body begins after those of the columns below t
--   RightEntries                   entries 0 to n - 1 are as they must be
--   StateOf image t next r         whether entry t says that its column is present, or that it is not right
--   Reached                        what is known of the contents after n right entries
--   WalkedContents                 of the first n entries: what is known after them, or that one of them is not right
--   Bodies                         the bodies of the present columns below n lie within the image
--   copied_byte                     a byte of the stripe after the copying: the body's where the column is present, else the one that was there
--   CopiedBelow                    the columns below n are copied, and what comes after them stays
use Rattle.std.specs.Prelude.{◌≡◌, Bool, true, false, cond, List, ℕ, ◌+◌, ◌*◌, ◌≤◌, ◌<◌, eqb, length, get_or, Result, Ok, Err}
use Rattle.parity.specs.Sum.{count}
use Rattle.parity.specs.Presence.{present}
use Rattle.refusals.specs.declared.Refusal.{Refusal}
use Rattle.refusals.specs.declared.Refusal.TheVariants.{Malformed}
use Rattle.image.specs.declared.table.Table.{Table}
use Rattle.image.specs.Reads.{number2}

unfoldable pub number4 : List ℕ → ℕ → ℕ
number4 image x = number2 image x + 65536 * number2 image (x + 2)

abbrev pub entry_at : ℕ → ℕ
entry_at t = 8 + 8 * t

unfoldable pub says_present : List ℕ → ℕ → Bool
says_present image t = eqb (get_or image (entry_at t + 2) 0) 1

pub record Entry (image : List ℕ) (t state offset : ℕ) : Type 0 where
  pub number : number2 image (entry_at t) ≡ t
  pub marked : get_or image (entry_at t + 2) 0 ≡ state
  pub zero : get_or image (entry_at t + 3) 0 ≡ 0
  pub begins : number4 image (entry_at t + 4) ≡ offset

abbrev pub RightEntry : List ℕ → ℕ → ℕ → Type 0
RightEntry image t next = Entry image t (cond (says_present image t) 1 0) (cond (says_present image t) next 0)

-- where the contents say that the body of column t begins
abbrev pub offset_at : List ℕ → ℕ → ℕ
offset_at image t = number4 image (entry_at t + 4)

unfoldable pub body_at : List ℕ → ℕ → ℕ → ℕ → ℕ
body_at image start column t = start + count t (says_present image) * column

pub record RightEntries (image : List ℕ) (start column n : ℕ) : Type 0 where
  pub at : (t : ℕ) → t < n → RightEntry image t (body_at image start column t)

abbrev pub StateOf : List ℕ → ℕ → ℕ → Result Bool Refusal → Type 0
StateOf image t next (Ok there) = (says_present image t ≡ there) × RightEntry image t next
StateOf image t next (Err f) = (f ≡ Malformed) × (RightEntry image t next → ⊥)

-- the places below n are present that the image says are
pub record Reached (image : List ℕ) (start column n : ℕ) (w : Table) : Type 0 where
  pub entries : RightEntries image start column n
  pub next : w.next ≡ body_at image start column n
  pub whole : length w.places ≡ 129
  pub below : (t : ℕ) → t < n → present w.places t ≡ says_present image t
  pub clear : (t : ℕ) → n ≤ t → present w.places t ≡ false

abbrev pub WalkedContents : List ℕ → ℕ → ℕ → ℕ → Result Table Refusal → Type 0
WalkedContents image start column n (Ok w) = Reached image start column n w
WalkedContents image start column n (Err f) = (f ≡ Malformed) × (RightEntries image start column n → ⊥)

pub record Bodies (image : List ℕ) (map : List Bool) (column n : ℕ) : Type 0 where
  pub entries : entry_at n ≤ length image
  pub ends : (t : ℕ) → t < n → present map t ≡ true → offset_at image t + column ≤ length image

-- byte j of column t of the stripe after the copying
unfoldable pub copied_byte : List ℕ → List Bool → ℕ → List ℕ → ℕ → ℕ → ℕ
copied_byte image map column before t j = cond (present map t) (get_or image (offset_at image t + j) 0) (get_or before (t * column + j) 0)

pub record CopiedBelow (image : List ℕ) (map : List Bool) (column n : ℕ) (before after : List ℕ) : Type 0 where
  pub size : length after ≡ length before
  pub at : (t : ℕ) → t < n → (j : ℕ) → j < column → get_or after (t * column + j) 0 ≡ copied_byte image map column before t j
  pub later : (p : ℕ) → n * column ≤ p → get_or after p 0 ≡ get_or before p 0
