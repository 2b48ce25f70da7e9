use Rattle.std.proofs.Common.{◌++◌}
use Rattle.std.specs.Prelude.{flat_map}
use Rattle.desk_metrics.specs.Metrics.{latency_head, bucket_line, latency_sums}
use Rattle.desk_metrics.proofs.Written.{followed}
use Rattle.desk_metrics.proofs.text.write_latency.Goals as goal

pub returns : goal.returns
returns g c =
    let buckets = flat_map bucket_line c.args.latency.now.buckets in
    let sums = latency_sums c.args.latency.now in
    followed _ _ _ latency_head (buckets ++ sums) _ c.in_ok-write_parts.ensures.ok
    (followed _ _ _ buckets sums _ c.in_ok-write_buckets.ensures c.write_parts-2.ensures.ok)
