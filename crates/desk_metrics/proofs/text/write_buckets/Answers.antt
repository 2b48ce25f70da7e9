use Rattle.desk_output.proofs.Texts.{wrote_whole}
use Rattle.desk_metrics.specs.Metrics.{bucket_line}
use Rattle.desk_metrics.proofs.Written.{wrote_item}
use Rattle.desk_metrics.proofs.text.write_buckets.Goals as goal

pub loop-bucket-preserved : goal.loop-bucket-preserved
loop-bucket-preserved g c =
    wrote_item bucket_line _ _ _ c.args.buckets.now c.loop-bucket.bucket-index _ c.loop-bucket-test.true
    c.loop-bucket.invariant c.in-Ok.ensures

pub returns : goal.returns
returns g c =
    wrote_whole bucket_line _ _ c.args.buckets.now c.loop-bucket.bucket-index c.loop-bucket-test.false
    c.loop-bucket.invariant
