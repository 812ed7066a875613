-- What the content of one column must be, from the others.
--   candidate m k a u    the lane a with what its equations break by added to column u: the rows' amounts for u up to k, the
--                        diagonals' for column k + 1. If any content of column u makes the equations hold, this one does.
--   FitsBut m k b u s    the columns of s other than u fit a valid stripe: in every lane the candidate for u obeys the equations.
--                        A number u that is no column's leaves no column out.
use Rattle.std.specs.Prelude.{cond, List, ℕ, ◌<◌, eqb, leb}
use Rattle.parity.specs.Xor.{◌⊕◌}
use Rattle.parity.specs.Equations.{Lane, amount_h, amount_d, Holds}
use Rattle.parity.specs.Stripe.{lane}

unfoldable pub candidate : (m k : ℕ) → Lane → ℕ → Lane
candidate m k a u i t = cond (eqb t u) (a i t ⊕ cond (leb u k) (amount_h m k a i) (amount_d m k a i)) (a i t)

abbrev pub FitsBut : ℕ → ℕ → ℕ → ℕ → List ℕ → Type 0
FitsBut m k b u s = (l : ℕ) → l < b → Holds m k (candidate m k (lane m b s l) u)
