-- What is known of the input.
--   further done n          n bytes more than `done` were read; none more is the end of the input
--   input_after done read   what is known after a read: its count, or its failure
--   Nears done room r       one read came further by at most `room` bytes, or was the last
--   Taken n r               what was read lies within n bytes, and there may be more only where it is longer than an image may be
use Rattle.std.specs.Prelude.{◌≡◌, ℕ, zero, suc, ◌+◌, ◌≤◌, ◌<◌, Result, Ok, Err, ⊤}
use Rattle.std.specs.declared.io.Error.{Error}
use Rattle.shelf.specs.declared.reading.Input.{Input}
use Rattle.shelf.specs.declared.reading.Input.TheVariants.{More, Whole}

abbrev pub further : ℕ → ℕ → Input
further done zero = Whole done
further done (suc n) = More (done + suc n)

abbrev pub input_after : ℕ → Result ℕ Error → Result Input Error
input_after done (Ok n) = Ok (further done n)
input_after done (Err e) = Err e

abbrev pub Nears : ℕ → ℕ → Result Input Error → Type 0
Nears done room (Ok (More n)) = (done < n) × (n ≤ done + room)
Nears done room (Ok (Whole n)) = n ≡ done
Nears done room (Err e) = ⊤

abbrev pub Taken : ℕ → Result Input Error → Type 0
Taken n (Ok (More k)) = (16384 < k) × (k ≤ n)
Taken n (Ok (Whole k)) = k ≤ n
Taken n (Err e) = ⊤
