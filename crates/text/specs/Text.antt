-- Text as a list of bytes.
--   glyph d              the digit d, below 16, in lower case
--   two, three, four     a number in so many digits
--   decimal n            a number below 10,000 in decimal, without zeros in front
--   hex_byte x, hex s     a byte as two hexadecimal digits, and bytes one after another
--   Wrote x y at r t     the buffer x became y: the text t was written at `at`, r is the place after it, and what stands before and after stays
use Rattle.std.specs.Prelude.{◌≡◌, cond, List, [], ◌∷◌, ◌++◌, ℕ, ◌+◌, ◌/◌, ◌%◌, ltb, length, take, drop}

abbrev pub glyph : ℕ → ℕ
glyph d = cond (ltb d 10) (48 + d) (87 + d)

abbrev pub two : ℕ → List ℕ
two n = glyph (n / 10) ∷ glyph (n % 10) ∷ []

abbrev pub three : ℕ → List ℕ
three n = glyph (n / 100) ∷ two (n % 100)

abbrev pub four : ℕ → List ℕ
four n = glyph (n / 1000) ∷ three (n % 1000)

unfoldable pub decimal : ℕ → List ℕ
decimal n = cond (ltb n 10) (glyph n ∷ []) (cond (ltb n 100) (two n) (cond (ltb n 1000) (three n) (four n)))

abbrev pub hex_byte : ℕ → List ℕ
hex_byte x = glyph (x / 16) ∷ glyph (x % 16) ∷ []

unfoldable pub hex : List ℕ → List ℕ
hex [] = []
hex (x ∷ s) = hex_byte x ++ hex s

pub record Wrote (x y : List ℕ) (at r : ℕ) (t : List ℕ) : Type 0 where
  pub size : length y ≡ length x
  pub ends : r ≡ at + length t
  pub text : take r y ≡ take at x ++ t
  pub rest : drop r y ≡ drop r x
