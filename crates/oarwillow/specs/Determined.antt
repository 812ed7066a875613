-- Each call determines what it gives: two outcomes that meet its promise are equal. Each statement is a type, which proofs/Determined
-- inhabits.
--   NeverLying    17 is never given to C: the map that bytes give is a true one
use Rattle.std.specs.Prelude.{◌≡◌, ◌≢◌, List, ℕ}
use Rattle.oarwillow.specs.Calls.{EncodeGives, CheckGives, RestoreGives, LocateGives, RewriteGives, ChangeGives, ChangesGives, ShowGives, ContentsGives, ReadGives, WriteGives, WalkGives, GapsGives, StripeLengthGives, BenchLengthGives}

unfoldable pub EncodeGivesOne : Type 0
EncodeGivesOne = (m k b : ℕ) (s after after' : List ℕ) (r r' : ℕ) → EncodeGives m k b s after r → EncodeGives m k b s after' r' → (after ≡ after') × (r ≡ r')

unfoldable pub CheckGivesOne : Type 0
CheckGivesOne = (m k b : ℕ) (s : List ℕ) (x y z r x' y' z' r' : ℕ) → CheckGives m k b s x y z r → CheckGives m k b s x' y' z' r'
    → (x ≡ x') × (y ≡ y') × (z ≡ z') × (r ≡ r')

unfoldable pub RestoreGivesOne : Type 0
RestoreGivesOne = (m k b : ℕ) (places s bench after : List ℕ) (n x y r : ℕ) (after' : List ℕ) (n' x' y' r' : ℕ)
    → RestoreGives m k b places s bench after n x y r → RestoreGives m k b places s bench after' n' x' y' r'
    → (after ≡ after') × (n ≡ n') × (x ≡ x') × (y ≡ y') × (r ≡ r')

unfoldable pub LocateGivesOne : Type 0
LocateGivesOne = (m k b : ℕ) (s : List ℕ) (x y r x' y' r' : ℕ) → LocateGives m k b s x y r → LocateGives m k b s x' y' r' → (x ≡ x') × (y ≡ y') × (r ≡ r')

unfoldable pub RewriteGivesOne : Type 0
RewriteGivesOne = (m k b : ℕ) (s after after' : List ℕ) (column r r' : ℕ) → RewriteGives m k b s after column r → RewriteGives m k b s after' column r' → (after ≡ after') × (r ≡ r')

unfoldable pub ChangeGivesOne : Type 0
ChangeGivesOne = (m k b : ℕ) (s after after' : List ℕ) (column row : ℕ) (cell : List ℕ) (r r' : ℕ)
    → ChangeGives m k b s after column row cell r → ChangeGives m k b s after' column row cell r' → (after ≡ after') × (r ≡ r')

unfoldable pub ChangesGivesOne : Type 0
ChangesGivesOne = (m k b : ℕ) (s after after' columns rows cells : List ℕ) (x r x' r' : ℕ)
    → ChangesGives m k b s after columns rows cells x r → ChangesGives m k b s after' columns rows cells x' r' → (after ≡ after') × (x ≡ x') × (r ≡ r')

unfoldable pub ShowGivesOne : Type 0
ShowGivesOne = (m k b : ℕ) (places s bench : List ℕ) (column x y n r x' y' n' r' : ℕ)
    → ShowGives m k b places s bench column x y n r → ShowGives m k b places s bench column x' y' n' r' → (x ≡ x') × (y ≡ y') × (n ≡ n') × (r ≡ r')

unfoldable pub ContentsGivesOne : Type 0
ContentsGivesOne = (image places : List ℕ) (x y z r : ℕ) (places' : List ℕ) (x' y' z' r' : ℕ)
    → ContentsGives image places x y z r → ContentsGives image places' x' y' z' r'
    → (places ≡ places') × (x ≡ x') × (y ≡ y') × (z ≡ z') × (r ≡ r')

unfoldable pub ReadGivesOne : Type 0
ReadGivesOne = (image s after places : List ℕ) (x y z r : ℕ) (after' places' : List ℕ) (x' y' z' r' : ℕ)
    → ReadGives image s after places x y z r → ReadGives image s after' places' x' y' z' r'
    → (after ≡ after') × (places ≡ places') × (x ≡ x') × (y ≡ y') × (z ≡ z') × (r ≡ r')

unfoldable pub WriteGivesOne : Type 0
WriteGivesOne = (m k b : ℕ) (places s image after : List ℕ) (n r : ℕ) (after' : List ℕ) (n' r' : ℕ)
    → WriteGives m k b places s image after n r → WriteGives m k b places s image after' n' r' → (after ≡ after') × (n ≡ n') × (r ≡ r')

unfoldable pub WalkGivesOne : Type 0
WalkGivesOne = (image : List ℕ) (place next x y n r next' x' y' n' r' : ℕ) → WalkGives image place next x y n r → WalkGives image place next' x' y' n' r'
    → (next ≡ next') × (x ≡ x') × (y ≡ y') × (n ≡ n') × (r ≡ r')

unfoldable pub GapsGivesOne : Type 0
GapsGivesOne = (k : ℕ) (places : List ℕ) (n h x y z r n' h' x' y' z' r' : ℕ)
    → GapsGives k places n h x y z r → GapsGives k places n' h' x' y' z' r'
    → (n ≡ n') × (h ≡ h') × (x ≡ x') × (y ≡ y') × (z ≡ z') × (r ≡ r')

unfoldable pub StripeLengthGivesOne : Type 0
StripeLengthGivesOne = (m k b r r' : ℕ) → StripeLengthGives m k b r → StripeLengthGives m k b r' → r ≡ r'

unfoldable pub BenchLengthGivesOne : Type 0
BenchLengthGivesOne = (m b r r' : ℕ) → BenchLengthGives m b r → BenchLengthGives m b r' → r ≡ r'

unfoldable pub NeverLying : Type 0
NeverLying =
    ((m k b : ℕ) (s after : List ℕ) (r : ℕ) → EncodeGives m k b s after r → r ≢ 17)
    × ((m k b : ℕ) (s : List ℕ) (x y z r : ℕ) → CheckGives m k b s x y z r → r ≢ 17)
    × ((m k b : ℕ) (s : List ℕ) (x y r : ℕ) → LocateGives m k b s x y r → r ≢ 17)
    × ((m k b : ℕ) (s after : List ℕ) (column r : ℕ) → RewriteGives m k b s after column r → r ≢ 17)
    × ((m k b : ℕ) (s after : List ℕ) (column row : ℕ) (cell : List ℕ) (r : ℕ) → ChangeGives m k b s after column row cell r → r ≢ 17)
    × ((m k b : ℕ) (s after columns rows cells : List ℕ) (x r : ℕ) → ChangesGives m k b s after columns rows cells x r → r ≢ 17)
    × ((image places : List ℕ) (x y z r : ℕ) → ContentsGives image places x y z r → r ≢ 17)
    × ((image s after places : List ℕ) (x y z r : ℕ) → ReadGives image s after places x y z r → r ≢ 17)
    × ((m k b : ℕ) (places s before after : List ℕ) (n r : ℕ) → WriteGives m k b places s before after n r → r ≢ 17)
    × ((image : List ℕ) (place next x y n r : ℕ) → WalkGives image place next x y n r → r ≢ 17)
    × ((m k b : ℕ) (places s bench after : List ℕ) (n x y r : ℕ) → RestoreGives m k b places s bench after n x y r → r ≢ 17)
    × ((m k b : ℕ) (places s bench : List ℕ) (column x y n r : ℕ) → ShowGives m k b places s bench column x y n r → r ≢ 17)
