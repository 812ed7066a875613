-- A column turned by some rows, added in two runs: the rows from `turn` on get those from row 0 on, and the rows below turn - 1 get those
-- from row m - turn on. Row turn - 1 gets the imaginary row m - 1, that is nothing.
--   turned_runs, turned_run   two such runs add the turned column, and one does where it is turned by at most one row
--   first_run, second_run     where a run that begins in the column ends with it
--   turned_behind             where the column that is added ends before the cells that it is added to, and both stand in one buffer
--   turned_line               the row that a cell gets, as the line that goes through it has it
--   last_cell                 where the last cell of a column stands
use mathlib.Core.Path.{◌≡◌, sym, ap, ◌∙◌}
use mathlib.Core.List.{List, ◌++◌}
use Prim.Native.Nat.{ℕ, ◌+◌, ◌-◌, ◌*◌, ◌%◌, ◌≤◌, ◌<◌}
use native.Mathlib.Nat.{mul-le-mul_right, mod-add-mod, add-mod_right}
use native.Mathlib.Omega.{arith}
use lib.ListN.{length, take, drop, get_or}
use lib.Seq.{get_or-take}
use Rattle.lines.proofs.Rows.{Grown, grown_same, grown_behind}
use Rattle.parity.specs.Xor.{◌⊕◌}
use Rattle.parity.specs.Equations.{back}
use Rattle.parity.specs.Stripe.{byte, lane}
use Rattle.parity.proofs.Xor.{⊕_zero}
use Rattle.cells.specs.Runs.{Put}
use Rattle.cells.proofs.Parts.{parts_end, by_order}
use Rattle.cells.proofs.Puts.{put_none, put_count}
use Rattle.lines.specs.Lines.{real, Sized}
use Rattle.lines.specs.Rows.{Lined}
use Rattle.lines.proofs.Lines.{up_around, up_straight, real_in, real_out, column_is}

module _ {m b c : ℕ} (z : Sized m b c) (at turn t : ℕ) (inside : turn < m) (w u v s : List ℕ)
    (p : Put w u (at + turn * b) ((m - 1 - turn) * b) (λ l. get_or w (at + turn * b + l) 0 ⊕ get_or s (t * c + l) 0))
    (q : Put u v at ((turn - 1) * b) (λ l. get_or u (at + l) 0 ⊕ get_or s (t * c + (m - turn) * b + l) 0)) where
  -- a real row of the column
  read : (r l : ℕ) → r < m - 1 → get_or s (t * c + (r * b + l)) 0 ≡ real m (lane m b s l) r t
  unfolding byte
  read r l h = ap (λ (x : ℕ). get_or s (t * x + (r * b + l)) 0) z.column ∙ sym (real_in m (lane m b s l) r t h)

  abbrev Holds : ℕ → ℕ → Type 0
  Holds r l = get_or v (at + (r * b + l)) 0 ≡ get_or w (at + (r * b + l)) 0 ⊕ real m (lane m b s l) (back m r turn) t

  -- from `turn` on
  low : (r l : ℕ) → r < m - 1 → l < b → turn ≤ r → Holds r l
  low r l h k o =
      let d : ℕ = r - turn in
      let e : r * b ≡ turn * b + d * b = (let x : r ≡ turn + d = omega arith in ap (λ (y : ℕ). y * b) x ∙ omega arith) in
      let n : d * b + b ≤ (m - 1 - turn) * b = parts_end b (omega arith) in
      let f : (turn - 1) * b ≤ turn * b = mul-le-mul_right b (omega arith) in
      let g : at + (r * b + l) ≡ at + turn * b + (d * b + l) = omega arith in
      q.after (at + (r * b + l)) (omega arith)
      ∙ ap (λ (x : ℕ). get_or u x 0) g
      ∙ p.inside (d * b + l) (omega arith)
      ∙ ap (λ (x : ℕ). get_or w x 0 ⊕ get_or s (t * c + (d * b + l)) 0) (sym g)
      ∙ ap (λ (x : ℕ). get_or w (at + (r * b + l)) 0 ⊕ x) (read d l (omega arith) ∙ ap (λ (x : ℕ). real m (lane m b s l) x t) (up_straight m turn r o (omega arith)))

  -- below turn - 1
  high : (r l : ℕ) → r < turn - 1 → l < b → Holds r l
  high r l h k =
      let d : ℕ = r + m - turn in
      let e : d * b ≡ (m - turn) * b + r * b = (let x : d ≡ m - turn + r = omega arith in ap (λ (y : ℕ). y * b) x ∙ omega arith) in
      let n : r * b + b ≤ (turn - 1) * b = parts_end b h in
      let f : (turn - 1) * b ≤ turn * b = mul-le-mul_right b (omega arith) in
      let g : t * c + (m - turn) * b + (r * b + l) ≡ t * c + (d * b + l) = omega arith in
      q.inside (r * b + l) (omega arith)
      ∙ ap (λ (x : ℕ). x ⊕ get_or s (t * c + (m - turn) * b + (r * b + l)) 0) (p.before (at + (r * b + l)) (omega arith))
      ∙ ap (λ (x : ℕ). get_or w (at + (r * b + l)) 0 ⊕ get_or s x 0) g
      ∙ ap (λ (x : ℕ). get_or w (at + (r * b + l)) 0 ⊕ x) (read d l (omega arith) ∙ ap (λ (x : ℕ). real m (lane m b s l) x t) (up_around m turn r (omega arith) (omega arith)))

  -- row turn - 1
  none : (r l : ℕ) → r + 1 ≡ turn → l < b → Holds r l
  none r l h k =
      let e : r * b + b ≡ turn * b = (let x : (r + 1) * b ≡ r * b + b = omega arith in sym x ∙ ap (λ (y : ℕ). y * b) h) in
      let f : (turn - 1) * b ≡ r * b = (let x : turn - 1 ≡ r = omega arith in ap (λ (y : ℕ). y * b) x) in
      let o : m - 1 ≤ r + m - turn = omega arith in
      q.after (at + (r * b + l)) (omega arith)
      ∙ p.before (at + (r * b + l)) (omega arith)
      ∙ sym (ap (λ (x : ℕ). get_or w (at + (r * b + l)) 0 ⊕ x)
      (ap (λ (x : ℕ). real m (lane m b s l) x t) (sym (up_around m turn r (omega arith) (omega arith))) ∙ real_out m (lane m b s l) (r + m - turn) t o)
      ∙ ⊕_zero (get_or w (at + (r * b + l)) 0))

  pub turned_runs : Lined (m - 1) b at w v (λ r l. get_or w (at + (r * b + l)) 0 ⊕ real m (lane m b s l) (back m r turn) t)
  turned_runs =
      let f : (turn - 1) * b ≤ turn * b = mul-le-mul_right b (omega arith) in
      let g : turn * b ≤ (m - 1) * b = mul-le-mul_right b (omega (arith, inside)) in
      let j : turn * b + (m - 1 - turn) * b ≡ (m - 1) * b = (let x : turn + (m - 1 - turn) ≡ m - 1 = omega (arith, inside) in omega (arith, ap (λ (y : ℕ). y * b) x)) in
      record {
        size = q.size ∙ p.size;
        inside = λ r l h k. by_order (Holds r l) r turn
            (λ below. by_order (Holds r l) r (turn - 1) (λ under. high r l under k) (λ over. none r l (omega arith) k))
            (λ above. low r l h k above);
        before = λ x h. q.before x h ∙ p.before x (omega arith);
        after = λ x h. q.after x (omega arith) ∙ p.after x (omega arith);
      }

module _ {m b c : ℕ} (z : Sized m b c) (turn : ℕ) where
  pub first_run : turn < m → turn * b + (m - 1 - turn) * b ≡ c
  first_run h =
      let x : turn + (m - 1 - turn) ≡ m - 1 = omega arith in
      let y : turn * b + (m - 1 - turn) * b ≡ (turn + (m - 1 - turn)) * b = omega arith in
      y ∙ ap (λ (n : ℕ). n * b) x ∙ sym (column_is m b c z)

  pub second_run : 1 ≤ turn → turn ≤ m → (m - turn) * b + (turn - 1) * b ≡ c
  second_run h k =
      let x : m - turn + (turn - 1) ≡ m - 1 = omega arith in
      let y : (m - turn) * b + (turn - 1) * b ≡ (m - turn + (turn - 1)) * b = omega arith in
      y ∙ ap (λ (n : ℕ). n * b) x ∙ sym (column_is m b c z)

  pub turned_run : turn ≤ 1 → turn < m → (at t : ℕ) (w u s : List ℕ)
      → Put w u (at + turn * b) ((m - 1 - turn) * b) (λ l. get_or w (at + turn * b + l) 0 ⊕ get_or s (t * c + l) 0)
      → Lined (m - 1) b at w u (λ r l. get_or w (at + (r * b + l)) 0 ⊕ real m (lane m b s l) (back m r turn) t)
  turned_run few h at t w u s p =
      let x : turn - 1 ≡ 0 = omega arith in
      let y : 0 ≡ (turn - 1) * b = (let n : 0 ≡ 0 * b = omega arith in n ∙ ap (λ (n : ℕ). n * b) (sym x)) in
      turned_runs z at turn t h w u u s p (put_count (put_none u at _) y)

  -- a row of a column is the same in what stands before `at`, where the column ends
  same_before : (at t : ℕ) (w : List ℕ) → t * c + c ≤ at → (r l : ℕ) → l < b → real m (lane m b (take at w) l) r t ≡ real m (lane m b w l) r t
  unfolding byte
  same_before at t w past r l h = by_order (real m (lane m b (take at w) l) r t ≡ real m (lane m b w l) r t) r (m - 1)
      (λ low.
      let e : t * c + (r * b + l) < at = omega (arith, column_is m b c z, parts_end b low) in
      real_in m (lane m b (take at w) l) r t low
      ∙ rw (← z.column) (get_or-take at w (t * c + (r * b + l)) 0 e)
      ∙ sym (real_in m (lane m b w l) r t low))
      (λ high. real_out m (lane m b (take at w) l) r t high ∙ sym (real_out m (lane m b w l) r t high))

  pub turned_behind : (at t : ℕ) (w u v x : List ℕ) → at ≤ length w → t * c + c ≤ at → x ≡ take at w → u ≡ drop at w
      → Grown (m - 1) b 0 u v (λ r l. real m (lane m b x l) (back m r turn) t)
      → Grown (m - 1) b at w (x ++ v) (λ r l. real m (lane m b w l) (back m r turn) t)
  turned_behind at t w u v x room past e d p = rw e (grown_behind (m - 1) b at w v _ room (grown_same (m - 1) b 0 (drop at w) v _ _ (rw (e, d) at p) (λ r l h k. same_before at t w past (back m r turn) l k)))

  pub last_cell : c ≡ (m - 2) * b + b
  last_cell = let e : m - 2 + 1 ≡ m - 1 = omega (arith, z.big) in omega (arith, column_is m b c z, ap (λ (v : ℕ). v * b) e)

module _ (m r st shift : ℕ) (h : st < m) (k : shift < m) where
  turned_low : st < shift → back m ((r + shift) % m) st ≡ back m r (st + m - shift)
  unfolding back
  turned_low below =
      let e : r + shift + (m - st) ≡ r + (m - (st + m - shift)) + m = omega arith in
      mod-add-mod (r + shift) m (m - st) ∙ ap (λ (x : ℕ). x % m) e ∙ add-mod_right (r + (m - (st + m - shift))) m

  turned_high : shift ≤ st → back m ((r + shift) % m) st ≡ back m r (st - shift)
  unfolding back
  turned_high above =
      let e : r + shift + (m - st) ≡ r + (m - (st - shift)) = omega arith in
      mod-add-mod (r + shift) m (m - st) ∙ ap (λ (x : ℕ). x % m) e

  pub turned_line : back m ((r + shift) % m) st ≡ back m r (back m st shift)
  turned_line = by_order (back m ((r + shift) % m) st ≡ back m r (back m st shift)) st shift
      (λ below. turned_low below ∙ ap (back m r) (up_around m shift st below (omega arith)))
      (λ above. turned_high above ∙ ap (back m r) (up_straight m shift st above h))
