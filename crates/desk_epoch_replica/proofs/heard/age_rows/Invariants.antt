use Rattle.std.proofs.Common.{◌≡◌, ◌++◌, map, take, drop}
use Rattle.desk_epoch_replica.specs.Heard.{one_tick_older}
use Rattle.desk_epoch_replica.proofs.heard.age_rows.Given as goal

abbrev pub invariant-loop-row : goal.invariant-loop-row
invariant-loop-row l =
    let old = l.fn.rows.items in
    l.row-items ≡ map one_tick_older (take l.row-index old) ++ drop l.row-index old
