-- The shelf image as one definition, from a shape, a map and a stripe to bytes. Numbers are little-endian.
--   le2 n, le4 n               n in two bytes, and in four
--   joined n f                 f 0 ++ f 1 ++ … ++ f (n - 1)
--   bodies_at k                 where the bodies begin: right after the contents, k + 2 entries of eight bytes
--   present_below t map         how many columns below t are present
--   offset m k b map t         where the body of column t begins: the bodies are packed; 0 for an absent column
--   entry m k b map t          entry t of the contents: the column's number, its state, a zero byte, its offset
--   body m b map s t           column t of the stripe s, or nothing if it is absent
--   image_of m k b map s        the image: m, k, b and zero, the contents, the bodies
--   WellFormed m k b map i     i is the image of that shape and map, and some stripe. Places that are no columns are absent.
use Rattle.std.specs.Prelude.{◌≡◌, Bool, false, cond, List, [], ◌∷◌, ◌++◌, ℕ, zero, suc, ◌+◌, ◌*◌, ◌/◌, ◌%◌, ◌≤◌, length, take, drop}
use Rattle.parity.specs.Sum.{count}
use Rattle.parity.specs.Shape.{column_length}
use Rattle.parity.specs.Stripe.{Stripe}
use Rattle.parity.specs.Presence.{present}

abbrev pub le2 : ℕ → List ℕ
le2 n = n % 256 ∷ n / 256 % 256 ∷ []

abbrev pub le4 : ℕ → List ℕ
le4 n = le2 n ++ le2 (n / 65536)

unfoldable pub joined : ℕ → (ℕ → List ℕ) → List ℕ
joined zero f = []
joined (suc n) f = joined n f ++ f n

abbrev pub bodies_at : ℕ → ℕ
bodies_at k = 8 + 8 * (k + 2)

unfoldable pub present_below : ℕ → List Bool → ℕ
present_below t map = count t (present map)

unfoldable pub offset : ℕ → ℕ → ℕ → List Bool → ℕ → ℕ
offset m k b map t = cond (present map t) (bodies_at k + present_below t map * column_length m b) 0

unfoldable pub entry : ℕ → ℕ → ℕ → List Bool → ℕ → List ℕ
entry m k b map t = le2 t ++ (cond (present map t) 1 0 ∷ 0 ∷ le4 (offset m k b map t))

unfoldable pub body : ℕ → ℕ → List Bool → List ℕ → ℕ → List ℕ
body m b map s t = cond (present map t) (take (column_length m b) (drop (t * column_length m b) s)) []

unfoldable pub image_of : ℕ → ℕ → ℕ → List Bool → List ℕ → List ℕ
image_of m k b map s =
    le2 m ++ (le2 k ++ (le2 b ++ (le2 0 ++ (joined (k + 2) (entry m k b map) ++ joined (k + 2) (body m b map s)))))

pub record WellFormed (m k b : ℕ) (map : List Bool) (image : List ℕ) : Type 0 where
  pub stripe : List ℕ
  pub sized : Stripe m k b stripe
  pub same : image ≡ image_of m k b map stripe
  pub whole : length map ≡ 129
  pub clear : (t : ℕ) → k + 2 ≤ t → present map t ≡ false
