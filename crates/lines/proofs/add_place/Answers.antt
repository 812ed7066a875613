-- `lines::add_place` meets its contract: the place of a real cell is listed, an imaginary one adds nothing.
use mathlib.Core.Path.{◌≡◌, sym, ap, ◌∙◌}
use mathlib.Core.List.{List}
use Prim.Native.Nat.{ℕ, ◌+◌, ◌*◌, ◌-◌, ◌≤◌, ◌<◌}
use native.Mathlib.Nat.{mul-le-mul}
use native.Mathlib.Omega.{arith}
use lib.ListN.{get_or}
use Rattle.parity.specs.Stripe.{byte, lane}
use Rattle.lines.specs.Lines.{real, Sized}
use Rattle.lines.proofs.Lines.{real_in, real_out, cell_room, column_most}
use Rattle.lines.proofs.Places.{listed_one, listed_none}
use Rattle.lines.proofs.add_place.Goals as goal

-- a column begins within the numbers that fit
starts : {m b c : ℕ} (t : ℕ) → t < 256 → Sized m b c → t * c ≤ 131604480
starts {m} {b} {c} t h z = mul-le-mul {n₂ = 255} {m₂ = 516096} (omega arith) (column_most m b c z)

-- the byte at the place
read_at : (m b c r t : ℕ) → Sized m b c → r < m - 1 → (s : List ℕ) (l : ℕ) → get_or s (t * c + r * b + l) 0 ≡ real m (lane m b s l) r t
unfolding byte
read_at m b c r t z h s l =
    let q : t * c + r * b + l ≡ t * c + (r * b + l) = omega arith in
    ap (λ (p : ℕ). get_or s p 0) q ∙ ap (λ (p : ℕ). get_or s (t * p + (r * b + l)) 0) z.column ∙ sym (real_in m (lane m b s l) r t h)

pub overflow_mul-at : goal.overflow_mul-at
overflow_mul-at c = omega (arith, starts c.args.t c.requires.1 c.requires.2)

pub overflow_add-at : goal.overflow_add-at
overflow_add-at c =
    let a = c.args in
    omega (arith, starts a.t c.requires.1 c.requires.2, cell_room a.g.m a.g.b a.g.column c.requires.2 a.r 0 a.g.b c.if-r-m.true (omega arith), column_most a.g.m a.g.b a.g.column c.requires.2)

pub returns-then-r-m : goal.returns-then-r-m
returns-then-r-m c =
    let a = c.args in
    let z = c.requires.2 in
    listed_one a.g.b _ a.n _ a.at.now _ c.requires.0
    (omega (arith, cell_room a.g.m a.g.b a.g.column z a.r 0 a.g.b c.if-r-m.true (omega arith)))
    (read_at a.g.m a.g.b a.g.column a.r a.t z c.if-r-m.true)

pub returns : goal.returns
returns c =
    let a = c.args in
    listed_none _ _ _ 1 a.at.now _ (λ s l. real_out a.g.m (lane a.g.m a.g.b s l) a.r a.t c.if-r-m.false)
