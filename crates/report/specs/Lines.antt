-- The lines of a report, as lists of bytes. Fields are parted by one space, byte 32; lines end with byte 10.
--   field n mark              a number, and the byte that follows it
--   shape_line m k b           `shape m k b`
--   column_line t there bytes  the column's number; `present` or `restored`; its bytes in lower-case hex
--   column_lines n map f       the lines of columns 0 to n - 1, whose bytes are f 0, f 1, …
--   answer_line n              `answer n`
--   done_line blank            `answer 0`; of a blank stripe `answer 0 blank`
use Rattle.std.specs.Prelude.{Bool, true, false, List, [], ◌∷◌, ◌++◌, ℕ, zero, suc}
use Rattle.parity.specs.Presence.{present}
use Rattle.text.specs.Text.{decimal, hex}

abbrev pub field : ℕ → ℕ → List ℕ
field n mark = decimal n ++ (mark ∷ [])

-- "shape "
abbrev pub shape_word : List ℕ
shape_word = 115 ∷ 104 ∷ 97 ∷ 112 ∷ 101 ∷ 32 ∷ []

-- "answer "
abbrev pub answer_word : List ℕ
answer_word = 97 ∷ 110 ∷ 115 ∷ 119 ∷ 101 ∷ 114 ∷ 32 ∷ []

-- "blank", and the end of the line
abbrev pub blank_word : List ℕ
blank_word = 98 ∷ 108 ∷ 97 ∷ 110 ∷ 107 ∷ 10 ∷ []

-- " present ", " restored "
abbrev pub state_word : Bool → List ℕ
state_word true = 32 ∷ 112 ∷ 114 ∷ 101 ∷ 115 ∷ 101 ∷ 110 ∷ 116 ∷ 32 ∷ []
state_word false = 32 ∷ 114 ∷ 101 ∷ 115 ∷ 116 ∷ 111 ∷ 114 ∷ 101 ∷ 100 ∷ 32 ∷ []

abbrev pub shape_line : ℕ → ℕ → ℕ → List ℕ
shape_line m k b = shape_word ++ field m 32 ++ field k 32 ++ field b 10

abbrev pub column_line : ℕ → Bool → List ℕ → List ℕ
column_line t there bytes = decimal t ++ state_word there ++ hex bytes ++ (10 ∷ [])

unfoldable pub column_lines : ℕ → List Bool → (ℕ → List ℕ) → List ℕ
column_lines zero map f = []
column_lines (suc n) map f = column_lines n map f ++ column_line n (present map n) (f n)

abbrev pub answer_line : ℕ → List ℕ
answer_line n = answer_word ++ field n 10

abbrev pub done_line : Bool → List ℕ
done_line true = answer_word ++ field 0 32 ++ blank_word
done_line false = answer_line 0
