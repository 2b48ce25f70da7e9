use Rattle.std.proofs.Common.{◌≡◌, ◌++◌, map, take, drop}
use Rattle.desk_metrics.specs.Counts.{observed}
use Rattle.desk_metrics.proofs.latency.observe_all.Given as goal

abbrev pub invariant-loop-bucket : goal.invariant-loop-bucket
invariant-loop-bucket l =
    let old = l.fn.buckets in
    l.buckets ≡ map (observed l.microseconds) (take l.bucket-index old) ++ drop l.bucket-index old
