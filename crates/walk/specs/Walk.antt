-- Two columns that stand mixed with one another in the halves of a buffer, and parted. `lane m b w l i 0` is byte l of row i of the first half,
-- `lane m b w l i 1` that of the second. Of a column f, `f i l` is byte l of row i.
--   Reaches m δ             steps of δ rows, modulo m, come to every row
--   Stepped m from to a c   lane a became c: row `from` of the first half was added to row `to` of the second, and that to row `to` of the first
--   Mixed m b δ w f g       the first half is f plus g, the second f, turned by δ rows, plus g; row m - 1 of f, which is imaginary, is zero
--   Parted m b w f g        the first half is f, the second g, and there is no more
--   Walked m b δ w v        whatever columns stand mixed in w stand parted in v, which is as long
use Rattle.std.specs.Prelude.{◌≡◌, ◌≢◌, List, ℕ, ◌+◌, ◌-◌, ◌*◌, ◌%◌, ◌<◌, length}
use Rattle.parity.specs.Xor.{◌⊕◌}
use Rattle.parity.specs.Shape.{column_length}
use Rattle.parity.specs.Equations.{Lane}
use Rattle.parity.specs.Stripe.{lane}
use Rattle.lines.specs.Lines.{real}

abbrev pub Column : Type 0
Column = ℕ → ℕ → ℕ

pub record Reaches (m δ : ℕ) : Type 0 where
  pub inverse : ℕ
  pub undone : (m - δ) * inverse % m ≡ 1

pub record Stepped (m from to : ℕ) (a c : Lane) : Type 0 where
  pub second : c to 1 ≡ a to 1 ⊕ real m a from 0
  pub first : c to 0 ≡ a to 0 ⊕ c to 1
  pub other : (i : ℕ) → i < m - 1 → i ≢ to → (c i 0 ≡ a i 0) × (c i 1 ≡ a i 1)

pub record Mixed (m b δ : ℕ) (w : List ℕ) (f g : Column) : Type 0 where
  pub last : (l : ℕ) → l < b → f (m - 1) l ≡ 0
  pub first : (i l : ℕ) → i < m - 1 → l < b → lane m b w l i 0 ≡ f i l ⊕ g i l
  pub second : (i l : ℕ) → i < m - 1 → l < b → lane m b w l i 1 ≡ f ((i + δ) % m) l ⊕ g i l

pub record Parted (m b : ℕ) (w : List ℕ) (f g : Column) : Type 0 where
  pub size : length w ≡ 2 * column_length m b
  pub first : (i l : ℕ) → i < m - 1 → l < b → lane m b w l i 0 ≡ f i l
  pub second : (i l : ℕ) → i < m - 1 → l < b → lane m b w l i 1 ≡ g i l

pub record Walked (m b δ : ℕ) (w v : List ℕ) : Type 0 where
  pub size : length v ≡ length w
  pub parts : (f g : Column) → Mixed m b δ w f g → Parted m b v f g
