-- Bands: the first cells of a buffer, each set to what a cell after them holds plus a line, group of columns after group.
--   InBand                 the cells of a band after the columns below t: in_band_next
--   band_at                where the cells of a band stand
--   band_found             what was found of the cells of a band is found of its lines
--   begin_first, begin_next   what a cell begins with, by the case that the code takes
--   tells_part             what a lent cell's bytes or-ed together tell of
use mathlib.Core.Path.{◌≡◌, sym, ap, ap₂, ◌∙◌, subst}
use mathlib.Core.Logic.{◌≢◌}
use mathlib.Core.Bool.{Bool, cond}
use mathlib.Core.List.{List}
use Prim.Native.Nat.{ℕ, ◌+◌, ◌*◌, ◌≤◌, ◌<◌}
use native.Mathlib.Decide.{ℕ_discrete}
use native.Mathlib.Omega.{arith}
use lib.Dec.{eqb}
use lib.ListN.{length, get_or}
use borrow.Author.Tests.{eq-eqb, ne_eqb}
use Rattle.parity.specs.Xor.{◌⊕◌}
use Rattle.parity.specs.Stripe.{lane}
use Rattle.parity.proofs.Xor.{⊕_assoc}
use Rattle.cells.specs.Runs.{Tells}
use Rattle.cells.proofs.Parts.{part, part_at, part_size}
use Rattle.cells.proofs.Tells.{tells_same}
use Rattle.lines.specs.declared.Columns.{Columns}
use Rattle.lines.specs.declared.Grid.{Grid}
use Rattle.lines.specs.Rows.{Lined}
use Rattle.lines.proofs.Rows.{lined_same}
use Rattle.sums.specs.Sums.{begun}
use Rattle.sums.proofs.Sweeps.{begun_first, begun_next}
use Rattle.counting.specs.declared.testing.Broken.{Broken}
use Rattle.counting.specs.Counting.{piece_of, Found}
use Rattle.counting.proofs.Buts.{but_join}
use Rattle.counting.proofs.Found.{found_cong}

module _ (seed to : ℕ) {begin x : ℕ} where
  pub begin_first : x ≡ 0 → begin ≡ seed → begin ≡ cond (eqb x 0) seed to
  begin_first h e = e ∙ sym (ap (λ (c : Bool). cond c seed to) (eq-eqb x 0 h))

  pub begin_next : x ≢ 0 → begin ≡ to → begin ≡ cond (eqb x 0) seed to
  begin_next h e = e ∙ sym (ap (λ (c : Bool). cond c seed to) (ne_eqb x 0 h))

module _ (g : Grid) (s : List ℕ) (u first n seed : ℕ) where
  -- the columns from x up to y
  abbrev pub over : ℕ → ℕ → Columns
  over x y = record { from = x; to = y; u = u; v = u }

  pub record InBand (w o : List ℕ) (t : ℕ) : Type 0 where
    pub none : t ≡ 0 → o ≡ w
    pub some : t ≢ 0 → Lined n g.b 0 w o (λ r l. get_or w (seed + l) 0 ⊕ piece_of g s (first + r) (over 0 t) l)
    pub size : length o ≡ length w

  pub in_band_next : (w o q : List ℕ) (t e : ℕ) → t < e → InBand w o t
      → Lined n g.b 0 o q (λ r l. begun (over t e) o seed (r * g.b) l ⊕ piece_of g s (first + r) (over t e) l) → InBand w q e
  in_band_next w o q t e h p f = record {
    none = λ z. absurd (omega arith);
    some = λ _. elim (ℕ_discrete t 0) [
      | yes z ↦
          subst (λ (x : List ℕ). Lined n g.b 0 x q (λ r l. get_or w (seed + l) 0 ⊕ piece_of g s (first + r) (over 0 e) l)) (p.none z) (lined_same f (λ r l hr hl.
          ap₂ ◌⊕◌ (begun_first (over t e) seed (r * g.b) l o z ∙ ap (λ (x : List ℕ). get_or x (seed + l) 0) (p.none z)) (ap (λ (x : ℕ). piece_of g s (first + r) (over x e) l) z)))
      | no z ↦
          let a = p.some z in record {
            size = f.size ∙ a.size;
            inside = λ r l hr hl.
                let x : r * g.b + l ≡ 0 + (r * g.b + l) = omega arith in
                f.inside r l hr hl
                ∙ ap (λ (y : ℕ). y ⊕ piece_of g s (first + r) (over t e) l) (begun_next (over t e) seed (r * g.b) l o z ∙ ap (λ (y : ℕ). get_or o y 0) x ∙ a.inside r l hr hl)
                ∙ ⊕_assoc (get_or w (seed + l) 0) (piece_of g s (first + r) (over 0 t) l) (piece_of g s (first + r) (over t e) l)
                ∙ ap (λ (y : ℕ). get_or w (seed + l) 0 ⊕ y) (but_join g.m g.k (lane g.m g.b s l) u (first + r) t e z);
            before = λ x hx. f.before x hx ∙ a.before x hx;
            after = λ x hx. f.after x hx ∙ a.after x hx;
          }
    ];
    size = f.size ∙ p.size;
  }

pub band_at : {n b : ℕ} {w v : List ℕ} {f : ℕ → ℕ → ℕ} → Lined n b 0 w v f → (r l : ℕ) → r < n → l < b → get_or v (r * b + l) 0 ≡ f r l
band_at {b = b} {v = v} p r l h k = let e : r * b + l ≡ 0 + (r * b + l) = omega arith in ap (λ (y : ℕ). get_or v y 0) e ∙ p.inside r l h k

-- the lines are f after the first ones, held to the cell at `seed`, which is as it was in x
pub band_found : (first seed : ℕ) (x w : List ℕ) (f : ℕ → ℕ → ℕ) {enough n b : ℕ} {v : List ℕ} {r : Broken}
    → Lined n b 0 w v (λ i l. get_or w (seed + l) 0 ⊕ f l (first + i)) → ((l : ℕ) → l < b → get_or w (seed + l) 0 ≡ get_or x (seed + l) 0)
    → Found enough n b (λ l i. get_or v (i * b + l) 0) r → Found enough n b (λ l i. get_or x (seed + l) 0 ⊕ f l (first + i)) r
band_found first seed x w f p same q = found_cong q (λ i l h k. band_at p i l h k ∙ ap (λ (y : ℕ). y ⊕ f l (first + i)) (same l k))

pub tells_part : (w : List ℕ) (o p b : ℕ) → p + b ≤ length w → Tells o (length (part w p (p + b))) (λ l. get_or (part w p (p + b)) l 0) → Tells o b (λ l. get_or w (p + l) 0)
tells_part w o p b room t = tells_same (subst (λ (n : ℕ). Tells o n (λ l. get_or (part w p (p + b)) l 0)) (part_size w p b room) t) (λ l h. part_at w p (p + b) l (omega arith))
