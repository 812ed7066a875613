-- Each promise determines its result: two answers that meet it are equal. Each statement is a type, which proofs/Determined inhabits.
use Rattle.std.specs.Prelude.{◌≡◌, List, ℕ, Result}
use Rattle.checking.specs.declared.checks.Checked.{Checked}
use Rattle.checking.specs.Checks.{Checks}
use Rattle.checking.specs.declared.locates.Located.{Located}
use Rattle.refusals.specs.declared.Refusal.{Refusal}
use Rattle.checking.specs.Locates.{Locates}

unfoldable pub ChecksOne : Type 0
ChecksOne = (m k b : ℕ) (s : List ℕ) (r q : Result Checked Refusal) → Checks m k b s r → Checks m k b s q → r ≡ q

unfoldable pub LocatesOne : Type 0
LocatesOne = (m k b : ℕ) (s : List ℕ) (r q : Result Located Refusal) → Locates m k b s r → Locates m k b s q → r ≡ q
