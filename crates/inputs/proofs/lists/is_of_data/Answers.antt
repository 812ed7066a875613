-- `inputs::lists::is_of_data` meets its contract: the column is tested, then the row.
use mathlib.Core.Path.{sym}
use mathlib.Core.Bool.{true≢false}
use native.Mathlib.Omega.{arith}
use borrow.Author.Tests.{ltb-true, lt-ltb}
use Rattle.inputs.proofs.lists.is_of_data.Goals as goal

pub returns-then-k-column : goal.returns-then-k-column
returns-then-k-column c = (λ e. absurd (true≢false (sym e)), λ h. absurd (omega (arith, h.0, c.if-k-column.true)))

pub returns : goal.returns
returns c = (λ e. (omega (arith, c.if-k-column.false), ltb-true _ _ e), λ h. lt-ltb _ _ h.1)
