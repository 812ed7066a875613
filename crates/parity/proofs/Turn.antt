-- A column is its m - 1 cells, over a zero in row m - 1. To turn it by c is to move row i + c (modulo m) to row i, and then to add what came
-- to row m - 1 to every row, which makes that row zero again. Turns add up, and where δ has an inverse modulo m, which is odd,
-- 1 + (the turn by δ) can be undone: by the turns by δ, 3δ, 5δ, …, (m - 2)δ, added. For all turns by multiples of δ, added, are zero. Assumes nothing.
use mathlib.Core.Path.{◌≡◌, refl, sym, ap, ap₂, ◌∙◌, fun_ext}
use mathlib.Core.Logic.{◌⊎◌, inl, inr}
use Prim.Native.Nat.{ℕ, zero, suc, ◌+◌, ◌-◌, ◌*◌, ◌/◌, ◌%◌, ◌≤◌, ◌<◌}
use native.Mathlib.Nat.{mod-add-mod, add-mod-mod, mod-eq_of_lt, mod-lt, add_comm, add_assoc, eq-or-lt_of_le, add-zero, zero-mul, mul-mod_left, zero-mod}
use native.Mathlib.Fin
use native.Mathlib.Decide.{dec_lt}
use native.Mathlib.Omega.{arith}
use Rattle.parity.specs.Xor.{◌⊕◌}
use Rattle.parity.proofs.Xor.{⊕_self, ⊕_zero, xor}
use Rattle.parity.specs.Sum.{sum}
use Rattle.parity.proofs.Sum.{sum_cong, sum_add, sum_order}
use Rattle.parity.proofs.Modular.{affine}
use Rattle.parity.proofs.Column.{◌⊞◌, O, total, ⊞_self, ⊞_eq, total_cong, total_none, total_add, total_head, total_pairs}

abbrev pub Col : ℕ → Type 0
Col m = (i : ℕ) × (i < m - 1) → ℕ

-- row i of a column: its cell, and zero from row m - 1 on
at : (m : ℕ) → Col m → (i : ℕ) → Dec (i < m - 1) → ℕ
at m f i (yes l) = f (i, l)
at m f i (no l) = 0

unfoldable pub row : (m : ℕ) → Col m → ℕ → ℕ
unfolding at
row m f i = at m f i (dec_lt i (m - 1))

unfoldable pub turn : (m : ℕ) → ℕ → Col m → Col m
turn m c f x = row m f ((x.0 + c) % m) ⊕ row m f ((m - 1 + c) % m)

module _ (m : ℕ) where
  pub row_in : (f : Col m) (x : (i : ℕ) × (i < m - 1)) → row m f x.0 ≡ f x
  unfolding row at
  row_in f x = go (dec_lt x.0 (m - 1))
    where
      go : (d : Dec (x.0 < m - 1)) → at m f x.0 d ≡ f x
      go (yes l) = ap f (Fin.val_path {n = m - 1} {i = (x.0, l)} {j = x} refl)
      go (no l) = absurd (l x.1)

  pub row_out : (f : Col m) (i : ℕ) → m - 1 ≤ i → row m f i ≡ 0
  unfolding row at
  row_out f i h = go (dec_lt i (m - 1))
    where
      go : (d : Dec (i < m - 1)) → at m f i d ≡ 0
      go (yes l) = absurd (omega arith)
      go (no l) = refl

  pub row_add : (f g : Col m) (i : ℕ) → row m (f ⊞ g) i ≡ row m f i ⊕ row m g i
  unfolding row at ◌⊞◌
  row_add f g i = go (dec_lt i (m - 1))
    where
      go : (d : Dec (i < m - 1)) → at m (f ⊞ g) i d ≡ at m f i d ⊕ at m g i d
      go (yes l) = refl
      go (no l) = sym (⊕_self 0)

  pub turn_add : (c : ℕ) (f g : Col m) → turn m c (f ⊞ g) ≡ turn m c f ⊞ turn m c g
  unfolding turn ◌⊞◌
  turn_add c f g = fun_ext (λ x. ap₂ ◌⊕◌ (row_add f g ((x.0 + c) % m)) (row_add f g ((m - 1 + c) % m)) ∙ simp xor)

  pub turn_zero : (c : ℕ) → turn m c O ≡ O
  turn_zero c = ap (turn m c) (sym (⊞_self O)) ∙ turn_add c O O ∙ ⊞_self (turn m c O)

  pub turn_total : (c n : ℕ) (f : ℕ → Col m) → turn m c (total n f) ≡ total n (λ j. turn m c (f j))
  unfolding total sum O ◌⊞◌
  turn_total c zero f = turn_zero c
  turn_total c (suc n) f = turn_add c (total n f) (f n) ∙ ap (λ x. x ⊞ turn m c (f n)) (turn_total c n f)

  open_turn : (c : ℕ) (f : Col m) (x : (i : ℕ) × (i < m - 1)) → turn m c f x ≡ row m f ((x.0 + c) % m) ⊕ row m f ((m - 1 + c) % m)
  unfolding turn
  open_turn c f x = refl

  module _ (big : 1 < m) where
    -- every row of a turned column, row m - 1 too
    row_turn : (c : ℕ) (f : Col m) (i : ℕ) → i < m → row m (turn m c f) i ≡ row m f ((i + c) % m) ⊕ row m f ((m - 1 + c) % m)
    unfolding turn
    row_turn c f i l = pick (eq-or-lt_of_le {n = i} {m = m - 1} (omega arith))
      where
        pick : (i ≡ m - 1) ⊎ (i < m - 1) → row m (turn m c f) i ≡ row m f ((i + c) % m) ⊕ row m f ((m - 1 + c) % m)
        pick (inl e) = row_out (turn m c f) i (omega arith) ∙ rw e (sym (⊕_self (row m f ((m - 1 + c) % m))))
        pick (inr k) = row_in (turn m c f) (i, k)

    pub turn_turn : (c d : ℕ) (f : Col m) → turn m c (turn m d f) ≡ turn m (c + d) f
    turn_turn c d f = fun_ext (λ x. open_turn c (turn m d f) x
        ∙ ap₂ ◌⊕◌ (row_turn d f ((x.0 + c) % m) (mod-lt (x.0 + c) (omega arith))) (row_turn d f ((m - 1 + c) % m) (mod-lt (m - 1 + c) (omega arith)))
        ∙ rw (mod-add-mod (x.0 + c) m d, mod-add-mod (m - 1 + c) m d, add_assoc x.0 c d, add_assoc (m - 1) c d) (simp xor)
        ∙ sym (open_turn (c + d) f x))

    pub turn_whole : (c : ℕ) (f : Col m) → c % m ≡ 0 → turn m c f ≡ f
    unfolding turn
    turn_whole c f e = fun_ext (λ x.
        ap₂ ◌⊕◌ (ap (row m f) (stays x.0 (omega (arith, x.1))) ∙ row_in f x) (ap (row m f) (stays (m - 1) (omega arith)) ∙ row_out f (m - 1) (omega arith)) ∙ ⊕_zero (f x))
      where
        stays : (i : ℕ) → i < m → (i + c) % m ≡ i
        stays i l = sym (add-mod-mod i c m) ∙ ap (λ y. (i + y) % m) e ∙ ap (λ y. y % m) (add-zero i) ∙ mod-eq_of_lt l

    module _ (δ e : ℕ) (inv : δ * e % m ≡ 1) where
      opposite : (c : ℕ) → (c + c * (m - 1)) % m ≡ 0
      opposite c = let one_more : suc (m - 1) ≡ m = omega arith in let times : c + c * (m - 1) ≡ c * m = omega (arith, ap (λ x. c * x) one_more) in rw times (mul-mod_left c m)

      rows : (f : Col m) (c : ℕ) → sum m (λ j. row m f ((c + j * δ) % m)) ≡ sum m (row m f)
      rows f c =
          sum_cong m (λ j l. ap (λ x. row m f (x % m)) (add_comm c (j * δ)))
          ∙ sum_order m (λ j. (j * δ + c) % m) (λ i. (i + c * (m - 1)) * e % m) (row m f) (affine m δ e c (c * (m - 1)) big inv (opposite c))

      -- all turns, added
      turns : (f : Col m) → total m (λ j. turn m (j * δ) f) ≡ O
      unfolding turn total O
      turns f = fun_ext (λ x.
          sum_add m (λ j. row m f ((x.0 + j * δ) % m)) (λ j. row m f ((m - 1 + j * δ) % m)) ∙ ap₂ ◌⊕◌ (rows f x.0) (rows f (m - 1)) ∙ ⊕_self (sum m (row m f)))

      -- 1 + (the turn by δ), undone
      pub undo : Col m → Col m
      undo w = total (m / 2) (λ j. turn m (suc (j + j) * δ) w)

      module _ (odd : m % 2 ≡ 1) where
        odds : (w : Col m) → total (m / 2) (λ j. turn m (suc (j + j) * δ) w ⊞ turn m (suc (suc (j + j)) * δ) w) ≡ w
        odds w =
            sym (total_pairs (m / 2) (λ j. turn m (suc j * δ) w))
            ∙ sym (⊞_eq (turn m (0 * δ) w) (total (m / 2 + m / 2) (λ j. turn m (suc j * δ) w))
            (sym (total_head (m / 2 + m / 2) (λ j. turn m (j * δ) w)) ∙ ap (λ n. total n (λ j. turn m (j * δ) w)) half ∙ turns w))
            ∙ turn_whole (0 * δ) w (rw (zero-mul δ) (zero-mod m))
          where
            half : suc (m / 2 + m / 2) ≡ m
            half = omega arith

        pub undo_right : (w : Col m) → undo w ⊞ turn m δ (undo w) ≡ w
        unfolding undo
        undo_right w =
            ap (λ x. undo w ⊞ x) (turn_total δ (m / 2) (λ j. turn m (suc (j + j) * δ) w) ∙ total_cong (m / 2) (λ j l. turn_turn δ (suc (j + j) * δ) w ∙ ap (λ c. turn m c w) (more (j + j))))
            ∙ sym (total_add (m / 2) (λ j. turn m (suc (j + j) * δ) w) (λ j. turn m (suc (suc (j + j)) * δ) w)) ∙ odds w
          where
            more : (n : ℕ) → δ + suc n * δ ≡ suc (suc n) * δ
            more n = omega arith

        pub undo_left : (f : Col m) → f ≡ turn m δ f → f ≡ O
        undo_left f s = sym (odds f) ∙ total_none (m / 2) (λ j l.
            ap (λ x. x ⊞ turn m (suc (suc (j + j)) * δ) f) (ap (turn m (suc (j + j) * δ)) s ∙ turn_turn (suc (j + j) * δ) δ f ∙ ap (λ c. turn m c f) (more (j + j)))
            ∙ ⊞_self (turn m (suc (suc (j + j)) * δ) f))
          where
            more : (n : ℕ) → suc n * δ + δ ≡ suc (suc n) * δ
            more n = omega arith
