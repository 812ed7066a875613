-- Where the bytes of a stripe stand, and stripes made of lanes.
--   place_lt, place_of      the place of a byte lies in the stripe, and each place in it is one of a byte
--   byte_at, row_at         the byte at a place in a column, and its row
--   stripe_ext              two stripes with the same bytes are one
--   each_place              what holds of every byte of a stripe holds at every place in it
--   build m k b f           the stripe whose lane l is f l
--   zeros_past, zeros_blank   zeros, past their end too; and they are a blank stripe
--   holds_byte              a lane's last eight bits obey the equations that the lane obeys
use mathlib.Core.Path.{◌≡◌, refl, sym, ap, ap₂, subst, ◌∙◌}
use mathlib.Core.Logic.{by_cases}
use mathlib.Core.Bool.{Bool, true, false, cond}
use mathlib.Core.List.{List, [], ◌∷◌}
use Prim.Native.Nat.{ℕ, zero, suc, ◌+◌, ◌-◌, ◌*◌, ◌/◌, ◌%◌, ◌<◌}
use native.Mathlib.Nat.{div-add-mod', mod-lt, mul-pos, div-lt_iff_lt-mul, le_of_suc-le-suc, not-suc-le-zero}
use native.Mathlib.Decide.{dec_lt}
use native.Mathlib.Omega.{arith}
use lib.Dec.{ltb}
use lib.Arith.{digits_div, digits_mod, digits_lt}
use lib.ListN.{length, get_or, get_or-eq_default}
use lib.Seq.{ext_get_or}
use Rattle.parity.specs.Xor.{◌⊕◌}
use Rattle.parity.specs.Sum.{sum}
use Rattle.parity.specs.Shape.{column_length, stripe_length}
use Rattle.parity.specs.Equations.{Lane, cell, back, H, S, D, Holds}
use Rattle.parity.specs.Stripe.{byte, Stripe, Blank}
use Rattle.parity.proofs.Xor.{⊕_byte}
use Rattle.parity.proofs.Sum.{sum_cong}

-- the list of f 0, …, f (n - 1)
tab : ℕ → (ℕ → ℕ) → List ℕ
tab zero f = []
tab (suc n) f = f 0 ∷ tab n (λ i. f (suc i))

length_tab : (n : ℕ) (f : ℕ → ℕ) → length (tab n f) ≡ n
unfolding tab
length_tab zero f = refl
length_tab (suc n) f = ap suc (length_tab n (λ i. f (suc i)))

get_or_tab : (n : ℕ) (f : ℕ → ℕ) (i : ℕ) → i < n → get_or (tab n f) i 0 ≡ f i
unfolding tab
get_or_tab zero f i l = absurd (not-suc-le-zero l)
get_or_tab (suc n) f zero l = refl
get_or_tab (suc n) f (suc i) l = get_or_tab n (λ i. f (suc i)) i (le_of_suc-le-suc l)

-- past the end of a list of zeros there is no other number either
pub zeros_past : (s : List ℕ) → ((x : ℕ) → x < length s → get_or s x 0 ≡ 0) → (x : ℕ) → get_or s x 0 ≡ 0
zeros_past s z x = by_cases (dec_lt x (length s)) (λ l. z x l) (λ l. get_or-eq_default s 0 {n = x} (omega arith))

-- a list with no other number than zero is blank
pub zeros_blank : (m k b : ℕ) (s : List ℕ) → ((x : ℕ) → get_or s x 0 ≡ 0) → Blank m k b s
unfolding byte
zeros_blank m k b s z = record { zeros = λ l i t hl hi ht. z _ }

-- what holds of 0 and of each f i holds of each entry, and past the end
tab_each : (P : ℕ → Type 0) → P 0 → (n : ℕ) (f : ℕ → ℕ) → ((i : ℕ) → P (f i)) → (x : ℕ) → P (get_or (tab n f) x 0)
unfolding tab
tab_each P z zero f h x = z
tab_each P z (suc n) f h zero = h 0
tab_each P z (suc n) f h (suc x) = tab_each P z n (λ i. f (suc i)) (λ i. h (suc i)) x

module _ (m b : ℕ) where
  pub byte_at : (s : List ℕ) (j t : ℕ) → byte m b s (j % b) (j / b) t ≡ get_or s (t * column_length m b + j) 0
  unfolding byte
  byte_at s j t = ap (λ y. get_or s (t * column_length m b + y) 0) (div-add-mod' j b)

  pub row_at : 0 < b → (j : ℕ) → j < column_length m b → j / b < m - 1
  unfolding column_length
  row_at full j h = (div-lt_iff_lt-mul {k = b} full).1 h

module _ (m k b : ℕ) where
  pub place_lt : (l i t : ℕ) → l < b → i < m - 1 → t < k + 2 → t * column_length m b + (i * b + l) < stripe_length m k b
  unfolding column_length stripe_length
  place_lt l i t hl hi ht = digits_lt ht (digits_lt hi hl)

  -- byte (x % c % b) of row (x % c / b) of column (x / c), for a column of c bytes, is what stands at x
  pub place_of : (s : List ℕ) (x : ℕ) → byte m b s (x % column_length m b % b) (x % column_length m b / b) (x / column_length m b) ≡ get_or s x 0
  unfolding byte
  place_of s x = ap (λ y. get_or s y 0) (ap (λ y. x / column_length m b * column_length m b + y) (div-add-mod' (x % column_length m b) b) ∙ div-add-mod' x (column_length m b))

  module _ (big : 1 < m) (full : 0 < b) where
    column_pos : 0 < column_length m b
    unfolding column_length
    column_pos = mul-pos (omega arith) full

    row_lt : (x : ℕ) → x % column_length m b / b < m - 1
    row_lt x = row_at m b full (x % column_length m b) (mod-lt x column_pos)

    column_lt : (x : ℕ) → x < stripe_length m k b → x / column_length m b < k + 2
    unfolding stripe_length
    column_lt x l = (div-lt_iff_lt-mul {k = column_length m b} column_pos).1 l

    pub stripe_ext : (s r : List ℕ) → length s ≡ stripe_length m k b → length r ≡ stripe_length m k b
        → ((l i t : ℕ) → l < b → i < m - 1 → t < k + 2 → byte m b s l i t ≡ byte m b r l i t) → s ≡ r
    stripe_ext s r ls lr same =
        ext_get_or 0 s r (ls ∙ sym lr) (λ x l.
        sym (place_of s x)
        ∙ same (x % column_length m b % b) (x % column_length m b / b) (x / column_length m b) (mod-lt _ full) (row_lt x) (column_lt x (rw ls at l))
        ∙ place_of r x)

    -- what holds of every byte, told by lane, row and column, holds of every place
    pub each_place : (P : ℕ → Type 0) (s : List ℕ) → length s ≡ stripe_length m k b
        → ((l i t : ℕ) → l < b → i < m - 1 → t < k + 2 → P (byte m b s l i t)) → (x : ℕ) → x < length s → P (get_or s x 0)
    each_place P s ls each x l =
        subst P (place_of s x) (each (x % column_length m b % b) (x % column_length m b / b) (x / column_length m b) (mod-lt _ full) (row_lt x) (column_lt x (rw ls at l)))

pub build : ℕ → ℕ → ℕ → (ℕ → Lane) → List ℕ
build m k b f = tab (stripe_length m k b) (λ x. f (x % column_length m b % b) (x % column_length m b / b) (x / column_length m b))

module _ (m k b : ℕ) (f : ℕ → Lane) where
  pub build_byte : (l i t : ℕ) → l < b → i < m - 1 → t < k + 2 → byte m b (build m k b f) l i t ≡ f l i t
  unfolding byte build column_length
  build_byte l i t hl hi ht =
      get_or_tab (stripe_length m k b) _ (t * column_length m b + (i * b + l)) (place_lt m k b l i t hl hi ht)
      ∙ rw (digits_div t {r = i * b + l} (digits_lt hi hl), digits_mod t {r = i * b + l} (digits_lt hi hl), digits_div i hl, digits_mod i hl)

  pub build_length : length (build m k b f) ≡ stripe_length m k b
  unfolding build
  build_length = length_tab (stripe_length m k b) _

  pub build_stripe : ((l i t : ℕ) → f l i t < 256) → Stripe m k b (build m k b f)
  unfolding build
  build_stripe small = record {
    whole = build_length;
    bytes = tab_each (λ x. x < 256) (omega arith) (stripe_length m k b) _ (λ x. small _ _ _);
  }

-- ---- the last eight bits

cond_byte : (c : Bool) (x : ℕ) → cond c x 0 % 256 ≡ cond c (x % 256) 0
cond_byte true x = refl
cond_byte false x = refl

sum_byte : (n : ℕ) (f : ℕ → ℕ) → sum n f % 256 ≡ sum n (λ i. f i % 256)
unfolding sum
sum_byte zero f = refl
sum_byte (suc n) f = ⊕_byte (sum n f) (f n) ∙ ap (λ x. x ⊕ (f n % 256)) (sum_byte n f)

module _ (m k : ℕ) (a : Lane) where
  cell_byte : (i t : ℕ) → cell m k a i t % 256 ≡ cell m k (λ i t. a i t % 256) i t
  unfolding cell
  cell_byte i t = cond_byte (ltb i (m - 1)) (cond (ltb t k) (a i t) 0) ∙ ap (λ x. cond (ltb i (m - 1)) x 0) (cond_byte (ltb t k) (a i t))

  pub holds_byte : Holds m k a → Holds m k (λ i t. a i t % 256)
  unfolding H D S
  holds_byte v = record {
    h = λ i l. ap (λ x. x % 256) (v.h i l) ∙ sum_byte m (λ t. cell m k a i t) ∙ sum_cong m (λ t c. cell_byte i t);
    d = λ i l. ap (λ x. x % 256) (v.d i l) ∙ ⊕_byte (S m k a) (sum m (λ t. cell m k a (back m i t) t))
        ∙ ap₂ ◌⊕◌ (sum_byte (m - 1) (λ t. cell m k a (m - 1 - suc t) (suc t)) ∙ sum_cong (m - 1) (λ t c. cell_byte (m - 1 - suc t) (suc t)))
        (sum_byte m (λ t. cell m k a (back m i t) t) ∙ sum_cong m (λ t c. cell_byte (back m i t) t));
  }
