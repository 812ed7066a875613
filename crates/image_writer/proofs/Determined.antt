-- The proofs of the statements in specs/Determined: a list of rules gives one verdict, and where it passes the promise says the rest. An image has nothing
-- of an absent column but its entry, and the rules ask of a stripe only its length and that of its image.
use mathlib.Core.Path.{◌≡◌, refl, sym, ap, ◌∙◌}
use mathlib.Core.Bool.{Bool, true, false}
use mathlib.Core.List.{List, ◌++◌}
use Prim.Native.Nat.{ℕ, zero, suc, ◌+◌, ◌*◌, ◌/◌, ◌%◌, ◌<◌}
use native.Mathlib.Nat.{mod-lt}
use native.Mathlib.Omega.{arith}
use lib.ListN.{length, get_or, take, drop, length-take, length-drop}
use lib.Seq.{ext_get_or, get_or-take, get_or-drop}
use Rattle.parity.specs.Shape.{column_length}
use Rattle.parity.specs.Presence.{present, differs, Agrees}
use Rattle.parity.proofs.Bytes.{byte_at, row_at}
use Rattle.parity.proofs.Columns.{same_column}
use Rattle.std.specs.Prelude.{Ok, Err}
use Rattle.refusals.proofs.Rules.{passes_not, refuse_one, gives_one}
use Rattle.image.specs.Format.{entry, joined, body, image_of}
use Rattle.image_writer.specs.Pieces.{four_numbers, body_of}
use Rattle.image_writer.specs.Writes.{write_rules}
use Rattle.image_writer.specs.Determined.{WritesOne, ImageUnread, WritesUnread}
use Rattle.image_writer.proofs.Joining.{joined_same}

pub writes_one : WritesOne
unfolding WritesOne
writes_one m k b map s before x y (Ok n) (Ok o) p q =
    let e = p.left.0 ∙ sym q.left.0 in
    (ap Ok e, p.left.1 ∙ ap (λ z. image_of m k b map.places s ++ drop z before) e ∙ sym q.left.1)
writes_one m k b map s before x y (Ok n) (Err g) p q = absurd (passes_not g (gives_one (write_rules m k b map s (length before)) _ _ p.told q.told))
writes_one m k b map s before x y (Err f) (Ok o) p q = absurd (passes_not f (gives_one (write_rules m k b map s (length before)) _ _ q.told p.told))
writes_one m k b map s before x y (Err f) (Err g) p q =
    (ap Err (refuse_one f g (gives_one (write_rules m k b map s (length before)) _ _ p.told q.told)), p.left ∙ sym q.left)

-- where a column has a place, a cell has a byte
some_byte : (m b j : ℕ) → j < column_length m b → 0 < b
unfolding column_length
some_byte m zero j h = absurd (omega arith)
some_byte m (suc b) j h = omega arith

-- a column that does not differ is the same, place by place and as a whole
module _ (m b : ℕ) (s z : List ℕ) (t : ℕ) (e : differs m b s z t ≡ false) where
  place_same : (j : ℕ) → j < column_length m b → get_or s (t * column_length m b + j) 0 ≡ get_or z (t * column_length m b + j) 0
  place_same j h =
      let full = some_byte m b j h in
      sym (byte_at m b s j t) ∙ same_column m b s z t e (j % b) (j / b) (mod-lt j full) (row_at m b full j h) ∙ byte_at m b z j t

  taken_same : length z ≡ length s → take (column_length m b) (drop (t * column_length m b) s) ≡ take (column_length m b) (drop (t * column_length m b) z)
  taken_same size = ext_get_or 0 _ _ (simp (length-take, length-drop, size)) (λ j l.
      let h : j < column_length m b = omega (arith, length-take (column_length m b) (drop (t * column_length m b) s)) in
      taken s j h ∙ place_same j h ∙ sym (taken z j h))
    where
      taken : (x : List ℕ) (j : ℕ) → j < column_length m b → get_or (take (column_length m b) (drop (t * column_length m b) x)) j 0 ≡ get_or x (t * column_length m b + j) 0
      taken x j h = get_or-take (column_length m b) (drop (t * column_length m b) x) j 0 h ∙ get_or-drop (t * column_length m b) x j 0

body_same : {m k b : ℕ} {map : List Bool} {s z : List ℕ} → length z ≡ length s → Agrees m k b map s z → (t : ℕ) → t < k + 2 → body m b map s t ≡ body m b map z t
unfolding body
body_same {m} {k} {b} {map} {s} {z} size a t h = go (present map t) refl
  where
    go : (p : Bool) → present map t ≡ p → body_of map (column_length m b) s t ≡ body_of map (column_length m b) z t
    go true e = rw e (taken_same m b s z t (a.at t h e) size)
    go false e = rw e refl

pub image_unread : ImageUnread
unfolding ImageUnread image_of
image_unread m k b map s z size a = ap (λ x. four_numbers m k b 0 ++ (joined (k + 2) (entry m k b map) ++ x)) (joined_same (k + 2) (body_same size a))

pub writes_unread : WritesUnread
unfolding WritesUnread ImageUnread
writes_unread m k b map s z before after r p size a =
    let e = image_unread m k b map.places s z size a in
    record { told = rw (size, ← e) p.told; left = rw (← e) p.left }
