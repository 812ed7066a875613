-- What the readers of an image promise.
--   number2 image x              the number in the two bytes at x
--   m_in, k_in, b_in image          the three numbers of its shape
--   bad_header image              8: it has under eight bytes, or its fourth number is not zero
--   malformed m k b image        8: no map makes it a well-formed image of that shape
--   contents_rules image          the refusals of `contents`, in order: 8, then `shape_rules` (1, 12, 13), then 8
--   read_rules image n            the refusals of `read` into a stripe of n bytes: those of `contents`, then 2
--   m_of r, k_of r, b_of r          the shape of an answer: 0 0 0 where it is refused
--   MapOf r map                   the map of an answer: a new one where it is refused
--   OwnShape image shape           the shape is the image's own three numbers
--   ContentsOf image r           r is what the image says of its shape and of its columns, with a true map
--   Filled                       the stripe after the read: present columns have their bodies' bytes, absent ones the bytes that they had
--   ReadInto image before after r    r is what the image says, and the stripe is filled. Refused, no byte of it changes.
use Rattle.std.specs.Prelude.{◌≡◌, ◌≢◌, ◌⊎◌, Bool, false, List, [], ◌∷◌, ◌++◌, ℕ, ◌+◌, ◌*◌, ◌<◌, length, get_or, Result, Ok, Err, IfOk}
use Rattle.parity.specs.Presence.{present, differs, Agrees}
use Rattle.maps.specs.declared.Map.{Map}
use Rattle.refusals.specs.declared.Refusal.{Refusal}
use Rattle.refusals.specs.declared.Refusal.TheVariants.{Malformed}
use Rattle.refusals.specs.Refusals.{verdict_of, Rule, Gives}
use Rattle.inputs.specs.Rules.{stripe_length_differs, shape_rules}
use Rattle.maps.specs.Maps.{New}
use Rattle.maps.specs.Truth.{TrueMap}
use Rattle.inputs.specs.declared.shapes.Shape.{Shape}
use Rattle.image.specs.declared.answers.Contents.{Contents}
use Rattle.image.specs.Format.{WellFormed}

unfoldable pub number2 : List ℕ → ℕ → ℕ
number2 image x = get_or image x 0 + 256 * get_or image (x + 1) 0

abbrev pub m_in : List ℕ → ℕ
m_in image = number2 image 0

abbrev pub k_in : List ℕ → ℕ
k_in image = number2 image 2

abbrev pub b_in : List ℕ → ℕ
b_in image = number2 image 4

abbrev pub bad_header : List ℕ → Rule
bad_header image = record { condition = (length image < 8) ⊎ (number2 image 6 ≢ 0); refusal = Malformed }

abbrev pub malformed : ℕ → ℕ → ℕ → List ℕ → Rule
malformed m k b image = record { condition = (map : List Bool) → WellFormed m k b map image → ⊥; refusal = Malformed }

abbrev pub contents_rules : List ℕ → List Rule
contents_rules image = bad_header image ∷ (shape_rules (m_in image) (k_in image) (b_in image) ++ (malformed (m_in image) (k_in image) (b_in image) image ∷ []))

abbrev pub read_rules : List ℕ → ℕ → List Rule
read_rules image n = contents_rules image ++ (stripe_length_differs (m_in image) (k_in image) (b_in image) n ∷ [])

abbrev pub m_of : Result Contents Refusal → ℕ
m_of (Ok r) = r.shape.m
m_of (Err f) = 0

abbrev pub k_of : Result Contents Refusal → ℕ
k_of (Ok r) = r.shape.k
k_of (Err f) = 0

abbrev pub b_of : Result Contents Refusal → ℕ
b_of (Ok r) = r.shape.b
b_of (Err f) = 0

abbrev pub MapOf : Result Contents Refusal → Map → Type 0
MapOf (Ok r) map = map ≡ r.map
MapOf (Err f) map = New map

pub record OwnShape (image : List ℕ) (shape : Shape) : Type 0 where
  pub first : shape.m ≡ m_in image
  pub second : shape.k ≡ k_in image
  pub third : shape.b ≡ b_in image

pub record Says (image : List ℕ) (r : Contents) : Type 0 where
  pub own : OwnShape image r.shape
  pub formed : WellFormed r.shape.m r.shape.k r.shape.b r.map.places image
  pub truth : TrueMap r.map

pub record ContentsOf (image : List ℕ) (r : Result Contents Refusal) : Type 0 where
  pub told : Gives (contents_rules image) (verdict_of r)
  pub says : IfOk r (Says image)

pub record Filled (m k b : ℕ) (map : List Bool) (image before after : List ℕ) : Type 0 where
  pub formed : WellFormed m k b map image
  pub size : length after ≡ length before
  pub copied : Agrees m k b map formed.stripe after
  pub kept : (t : ℕ) → t < k + 2 → present map t ≡ false → differs m b before after t ≡ false

abbrev pub Fills : List ℕ → List ℕ → List ℕ → Result Contents Refusal → Type 0
Fills image before after (Ok r) = Says image r × Filled r.shape.m r.shape.k r.shape.b r.map.places image before after
Fills image before after (Err f) = after ≡ before

pub record ReadInto (image before after : List ℕ) (r : Result Contents Refusal) : Type 0 where
  pub told : Gives (read_rules image (length before)) (verdict_of r)
  pub fills : Fills image before after r
