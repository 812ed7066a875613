-- `encoding::put_parity` meets its contract: S is put into D's last cell, and then both columns are made, in one of two ways.
use Rattle.encoding.proofs.Ends.{encoded}
use Rattle.encoding.proofs.put_parity.Goals as goal

pub returns-then-g-lt128 : goal.returns-then-g-lt128
returns-then-g-lt128 c =
    let u = c.split_at_mut-data.ensures in
    let o = c.split_at_mut-h.ensures in
    encoded c.requires u.value u.front_len o.value o.front_len c.put_sum.ensures c.put_columns.ensures

pub returns-else-g-lt128 : goal.returns-else-g-lt128
returns-else-g-lt128 c =
    let u = c.split_at_mut-data.ensures in
    let o = c.split_at_mut-h.ensures in
    encoded c.requires u.value u.front_len o.value o.front_len c.put_sum.ensures c.put_groups.ensures
