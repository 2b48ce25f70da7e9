use Rattle.std.proofs.Common.{◌≡◌, ◌++◌, map, take, drop}
use Rattle.desk_metrics.specs.Counts.{counted_status}
use Rattle.desk_metrics.proofs.status.count_status.Given as goal

abbrev pub invariant-loop-row : goal.invariant-loop-row
invariant-loop-row l =
    let old = l.fn.statuses in
    l.statuses ≡ map (counted_status l.status) (take l.row-index old) ++ drop l.row-index old
