-- `shelf::telling::tell` meets its contract: what was read is reported, and a read that failed has its own line.
use mathlib.Core.Path.{refl}
use native.Mathlib.Omega.{arith}
use Rattle.text.specs.Text.{decimal}
use Rattle.shelf.proofs.telling.tell.Goals as goal

pub returns-in-Err : goal.returns-in-Err
unfolding decimal
returns-in-Err c =
    let w = c.put_word.ensures in
    record {
      within = omega (arith, w.ends, w.size);
      told = rw c.in-Err.is (record { text = w.text; whole = refl; spare = refl });
      rest = w.rest;
    }
