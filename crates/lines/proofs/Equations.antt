-- The lines that the loops follow, and the sums that the equations ask for.
--   H_line      H of row i is line i of slant 0
--   S_line      S is line m - 1 of slant 1
--   D_line      D of row i is S plus line i of slant 1
--   row_at      a line of slant 0 stays in its row
--   row_line    a row's amount is the row over the first k + 1 columns
--   line_same   a line over the first n columns depends on the bytes of those columns alone
--   line_kept, span_kept   both in a stripe, where all bytes of its first n columns are as they were
use mathlib.Core.Path.{◌≡◌, sym, ap, ap₂, ◌∙◌}
use mathlib.Core.List.{List}
use Prim.Native.Nat.{ℕ, ◌+◌, ◌*◌, ◌-◌, ◌≤◌, ◌<◌}
use native.Mathlib.Nat.{zero-mul, one-mul}
use native.Mathlib.Omega.{arith}
use lib.ListN.{get_or}
use borrow.Author.Tests.{lt-ltb}
use Rattle.parity.specs.Xor.{◌⊕◌}
use Rattle.parity.specs.Shape.{column_length}
use Rattle.parity.specs.Equations.{Lane, cell, back, H, S, D, amount_h}
use Rattle.parity.specs.Stripe.{lane}
use Rattle.parity.proofs.Xor.{⊕_comm}
use Rattle.parity.proofs.Sum.{sum_cong, sum_cut}
use Rattle.parity.proofs.Cells.{diagonal, S_diagonal, cell_imaginary}
use Rattle.lines.specs.Lines.{real, line, span}
use Rattle.lines.proofs.Lines.{back_none, real_in, span_more, span_line, span_agree}
use Rattle.lines.proofs.Cells.{cell_kept}

-- a line of slant 0 stays in its row
pub row_at : (m i t : ℕ) → i < m → back m i (0 * t) ≡ i
row_at m i t h = ap (back m i) (zero-mul t) ∙ back_none m i h

module _ (m k : ℕ) (few : k ≤ m) (a : Lane) where
  cell_line : (i t : ℕ) → t < k → cell m k a i t ≡ real m a i t
  unfolding cell real
  cell_line i t h = rw (lt-ltb t k h)

  pub H_line : (i : ℕ) → i < m → H m k a i ≡ line m a 0 i k
  unfolding H line
  H_line i h =
      sum_cut k m few (λ t l _. cell_imaginary m k a i t l)
      ∙ sum_cong k (λ t l. cell_line i t l ∙ ap (λ (r : ℕ). real m a r t) (sym (row_at m i t h)))

  diagonal_line : (i : ℕ) → diagonal m k a i ≡ line m a 1 i k
  unfolding diagonal line
  diagonal_line i =
      sum_cut k m few (λ t l _. cell_imaginary m k a (back m i t) t l)
      ∙ sum_cong k (λ t l. cell_line (back m i t) t l ∙ ap (λ (x : ℕ). real m a (back m i x) t) (sym (one-mul t)))

  pub S_line : 1 < m → S m k a ≡ line m a 1 (m - 1) k
  S_line big = S_diagonal m k a big ∙ diagonal_line (m - 1)

  pub D_line : (i : ℕ) → D m k a i ≡ S m k a ⊕ line m a 1 i k
  unfolding D diagonal
  D_line i = ap (λ (x : ℕ). S m k a ⊕ x) (diagonal_line i)

  pub row_line : (i : ℕ) → i < m - 1 → amount_h m k a i ≡ line m a 0 i (k + 1)
  unfolding amount_h
  row_line i h =
      ⊕_comm (a i k) (H m k a i)
      ∙ ap₂ ◌⊕◌ (H_line i (omega arith) ∙ sym (span_line m a 0 i k)) (sym (ap (λ (r : ℕ). real m a r k) (row_at m i k (omega arith)) ∙ real_in m a i k h))
      ∙ span_more m a 0 i 0 k ∙ span_line m a 0 i (k + 1)

pub line_same : (m n : ℕ) (a b : Lane) → ((i t : ℕ) → i < m - 1 → t < n → a i t ≡ b i t) → (e i : ℕ) → line m a e i n ≡ line m b e i n
line_same m n a b same e i = sym (span_line m a e i n) ∙ span_agree m a b e i 0 n (omega arith) (λ r t hr _ ht. same r t hr ht) ∙ span_line m b e i n

module _ (m b n : ℕ) (s v : List ℕ) (kept : (p : ℕ) → p < n * column_length m b → get_or v p 0 ≡ get_or s p 0) (l : ℕ) (h : l < b) where
  pub line_kept : (y : ℕ) → y ≤ n → (e i : ℕ) → line m (lane m b v l) e i y ≡ line m (lane m b s l) e i y
  line_kept y most = line_same m y (lane m b v l) (lane m b s l) (λ r t hr ht. cell_kept m b n s v kept l r t h hr (omega arith))

  pub span_kept : (x y : ℕ) → x ≤ y → y ≤ n → (e i : ℕ) → span m (lane m b v l) e i x y ≡ span m (lane m b s l) e i x y
  span_kept x y order most e i = span_agree m (lane m b v l) (lane m b s l) e i x y order (λ r t hr _ ht. cell_kept m b n s v kept l r t h hr (omega arith))
