-- Whole columns of a whole stripe: what the loops over them ask for, and the lines that they start from.
--   sized, one_row                  the numbers of a shape, and of a stripe of one row
--   laid                            a stripe as long as the numbers of a shape ask for
--   row_crosses                     rows go through all columns of a stripe
--   column_room, short_column       a column has room for its m - 1 cells; a column of short cells is not long
--   whole_line, turned_by           row r, shifted by nothing, is row r; shifted by as much as u rows up, it is the row u rows up
use mathlib.Core.Path.{◌≡◌, sym, ap, ◌∙◌}
use mathlib.Core.List.{List}
use Prim.Native.Nat.{ℕ, ◌+◌, ◌*◌, ◌-◌, ◌%◌, ◌≤◌, ◌<◌}
use native.Mathlib.Nat.{mul-le-mul, mul-le-mul_right, mod-eq_of_lt, add-mod-mod}
use native.Mathlib.Omega.{arith}
use lib.ListN.{length}
use Rattle.parity.specs.Shape.{Shape, column_length, stripe_length}
use Rattle.parity.proofs.Shapes.{whole_stripe}
use Rattle.lines.specs.declared.Grid.{Grid}
use Rattle.lines.specs.Lines.{Sized, Laid, Crosses}
use Rattle.parity.specs.Equations.{back}
use Rattle.lines.proofs.Lines.{column_is}

pub sized : {m k b c : ℕ} → Shape m k b → c ≡ column_length m b → Sized m b c
sized s e = record { big = s.value.prime.big; few = s.value.most; filled = s.filled; short = s.short; column = e }

pub laid : {g : Grid} {s : List ℕ} → Shape g.m g.k g.b → g.column ≡ column_length g.m g.b → length s ≡ stripe_length g.m g.k g.b → Laid g s
laid {g} shape column stripe =
    record { sized = sized shape column; some = shape.real; few = shape.few; whole = stripe ∙ sym (whole_stripe g.m g.k g.b column) }

pub one_row : {n : ℕ} → 0 < n → n ≤ 4096 → Sized 2 n n
unfolding column_length
one_row some most = record { big = omega arith; few = omega arith; filled = some; short = most; column = omega arith }

module _ {m k b c p : ℕ} (z : Sized m b c) (few : k ≤ m) (whole : p ≡ (k + 2) * c) where
  columns : {y : ℕ} → y ≤ k + 2 → y * c ≤ p
  columns h = rw whole (mul-le-mul_right c h)

  pub row_crosses : {i x y : ℕ} → i < m → x ≤ y → y ≤ k + 2 → Crosses m c p 0 i x y
  row_crosses h order most = record {
    slant = omega arith;
    inside = h;
    order = order;
    within = omega arith;
    most = omega arith;
    columns = columns most;
  }

pub column_room : {m b c n : ℕ} → Sized m b c → n ≡ c → 0 + (m - 1) * b ≤ n
column_room {m} {b} {c} z h = omega (arith, column_is m b c z)

pub short_column : {m b c : ℕ} → Sized m b c → b < 128 → c ≤ 16384
short_column {m} {b} {c} z h = let q : (m - 1) * b ≤ 126 * 127 = mul-le-mul {n₂ = 126} {m₂ = 127} (omega (arith, z.few)) (omega arith) in omega (arith, column_is m b c z)

pub whole_line : {m r : ℕ} → r < m → (r + 0) % m ≡ r
whole_line {m} {r} h = let e : r + 0 ≡ r = omega arith in ap (λ (x : ℕ). x % m) e ∙ mod-eq_of_lt h

pub turned_by : (m r u : ℕ) → (r + back m 0 u) % m ≡ back m r u
unfolding back
turned_by m r u = let e : 0 + (m - u) ≡ m - u = omega arith in add-mod-mod r (0 + (m - u)) m ∙ ap (λ (x : ℕ). (r + x) % m) e
