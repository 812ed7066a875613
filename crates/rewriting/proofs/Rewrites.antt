-- Laws for rewriting column u of a stripe, band after band.
--   laid_length      another stripe as long
--   band_end         a band of rows lies within the stripe
--   band_copied      a band that was restored elsewhere, and copied
--   whole_band       where a column has room, all of its rows have it
--   bands_next       one band more
--   bands_all        a column of which all rows were rewritten
use mathlib.Core.Path.{◌≡◌, sym, ap, ◌∙◌}
use mathlib.Core.List.{List}
use Prim.Native.Nat.{ℕ, ◌+◌, ◌*◌, ◌-◌, ◌/◌, ◌≤◌, ◌<◌}
use native.Mathlib.Nat.{mul-le-mul_right}
use native.Mathlib.Decide.{ℕ_discrete}
use native.Mathlib.Omega.{arith}
use lib.ListN.{length, get_or}
use Rattle.parity.specs.Stripe.{byte}
use Rattle.parity.proofs.Bytes.{stripe_ext}
use Rattle.parity.proofs.Shapes.{whole_stripe}
use Rattle.cells.specs.Runs.{Put}
use Rattle.cells.proofs.Parts.{parts_end, by_order}
use Rattle.lines.specs.declared.Grid.{Grid}
use Rattle.lines.specs.Lines.{Laid, Sized}
use Rattle.lines.proofs.Lines.{column_is}
use Rattle.lines.proofs.Cells.{at_row, cells_fit}
use Rattle.restoring.specs.Restoring.{SameBut, RowsRestored}
use Rattle.rewriting.specs.Rewrite.{ColumnRewritten, BandRewritten}

pub laid_length : {g : Grid} {s v : List ℕ} → Laid g s → length v ≡ length s → Laid g v
laid_length laid e = record { sized = laid.sized; some = laid.some; few = laid.few; whole = e ∙ laid.whole }

-- ---- a band of n rows of column u, from row `first` on

module _ {g : Grid} {s : List ℕ} (laid : Laid g s) (u first n : ℕ) (rows : first + n ≤ g.m - 1) where
  -- it ends within its column
  within : first * g.b + n * g.b ≤ g.column
  within = let e : (first + n) * g.b ≤ (g.m - 1) * g.b = mul-le-mul_right g.b rows in omega (arith, e, column_is g.m g.b g.column laid.sized)

  pub band_end : u < g.k + 2 → u * g.column + first * g.b + n * g.b ≤ length s
  band_end h = omega (arith, within, parts_end g.column h, laid.whole)

  pub band_copied : {x v t : List ℕ} → RowsRestored g.m g.k g.b u first n s x v → Put s t (u * g.column + first * g.b) (n * g.b) (λ l. get_or v l 0)
      → BandRewritten g.m g.k g.b u first n s t
  band_copied {v = v} {t} p q = record {
    size = q.size;
    rows = λ r valid same l i hl hi.
        let e : u * g.column + ((first + i) * b + l) ≡ u * g.column + first * b + (i * b + l) = omega arith in
        at_row z t u l (first + i) ∙ ap (λ (x : ℕ). get_or t x 0) e ∙ q.inside (i * b + l) (omega (arith, parts_end b hi)) ∙ p.rows r valid same l i hl hi;
    before = λ l i hl hi. at_row z t u l i ∙ q.before _ (omega (arith, parts_end b hi)) ∙ sym (at_row z s u l i);
    other = λ l i y hl hi hy ne.
        at_row z t y l i
        ∙ by_order (get_or t (y * g.column + (i * b + l)) 0 ≡ get_or s (y * g.column + (i * b + l)) 0) y u
        (λ low. q.before _ (omega (arith, column_is g.m b g.column z, parts_end b hi, parts_end g.column low)))
        (λ high. let h : u < y = omega (arith, ne) in q.after _ (omega (arith, within, parts_end g.column h)))
        ∙ sym (at_row z s y l i);
  }
    where
      b : ℕ
      b = g.b

      z : Sized g.m g.b g.column
      z = laid.sized

-- where a column has room in p bytes, so many rows have it
pub whole_band : {m b c : ℕ} → Sized m b c → (p : ℕ) → c ≤ p → m - 1 ≤ p / b
whole_band {m} {b} {c} z p room = cells_fit (m - 1) b p z.filled (omega (arith, column_is m b c z))

-- ---- band after band

module _ (m k b u : ℕ) where
  pub bands_next : {first n : ℕ} {s o t : List ℕ} → BandRewritten m k b u 0 first s o → BandRewritten m k b u first n o t → BandRewritten m k b u 0 (first + n) s t
  bands_next {first} {n} {s} {o} {t} p q = record {
    size = q.size ∙ p.size;
    rows = λ r valid same l i hl hi. by_order (byte m b t l (0 + i) u ≡ byte m b r l (0 + i) u) i first
        (λ low. q.before l (0 + i) hl (omega arith) ∙ p.rows r valid same l i hl low)
        (λ high.
        let e : 0 + i ≡ first + (i - first) = omega arith in
        ap (λ (x : ℕ). byte m b t l x u) e ∙ q.rows r valid (still r same) l (i - first) hl (omega arith) ∙ ap (λ (x : ℕ). byte m b r l x u) (sym e));
    before = λ l i hl hi. absurd (omega arith);
    other = λ l i y hl hi hy ne. q.other l i y hl hi hy ne ∙ p.other l i y hl hi hy ne;
  }
    where
      -- what agreed with s in the other columns agrees with what it became
      still : (r : List ℕ) → SameBut m k b u s r → SameBut m k b u o r
      still r same l i y hl hi hy ne = p.other l i y hl hi hy ne ∙ same l i y hl hi hy ne

pub bands_all : {g : Grid} {s t : List ℕ} {u : ℕ} → Laid g s → BandRewritten g.m g.k g.b u 0 (g.m - 1) s t → ColumnRewritten g.m g.k g.b u s t
bands_all {g} {s} {t} {u} laid p = record {
  size = p.size;
  becomes = λ r valid same.
      stripe_ext g.m g.k g.b laid.sized.big laid.sized.filled t r (p.size ∙ laid.whole ∙ whole_stripe g.m g.k g.b laid.sized.column) valid.stripe.whole (λ l i y hl hi hy.
      elim (ℕ_discrete y u) [
        | yes e ↦
            let d : i ≡ 0 + i = omega arith in
            ap (λ (x : ℕ). byte g.m g.b t l i x) e
            ∙ ap (λ (x : ℕ). byte g.m g.b t l x u) d
            ∙ p.rows r valid same l i hl hi
            ∙ sym (ap (λ (x : ℕ). byte g.m g.b r l i x) e ∙ ap (λ (x : ℕ). byte g.m g.b r l x u) d)
        | no ne ↦ p.other l i y hl hi hy ne ∙ same l i y hl hi hy ne
      ]);
}
