-- How the highest place is looked for: what the functions of the map promise each other.
--   Topped n places top   top is one more than the highest place below n that is present; 0 where none is
use Rattle.std.specs.Prelude.{◌≡◌, Bool, true, false, List, ℕ, ◌-◌, ◌≤◌, ◌<◌}
use Rattle.parity.specs.Presence.{present}

pub record Topped (n : ℕ) (places : List Bool) (top : ℕ) : Type 0 where
  pub most : top ≤ n
  pub there : 1 ≤ top → present places (top - 1) ≡ true
  pub above : (t : ℕ) → top ≤ t → t < n → present places t ≡ false
