use Rattle.std.proofs.Common.{◌≡◌, ◌++◌, map, take, drop}
use Rattle.desk_epoch_replica.specs.declared.limits.TheConstants.{TELL_TICKS}
use Rattle.desk_epoch_replica.specs.Ticks.{one_more_up_to}
use Rattle.desk_epoch_replica.proofs.ticking.tick_rows.Given as goal

abbrev pub invariant-loop-row : goal.invariant-loop-row
invariant-loop-row l =
    let old = l.fn.rows.items in
    l.row-items ≡ map (one_more_up_to TELL_TICKS) (take l.row-index old) ++ drop l.row-index old
