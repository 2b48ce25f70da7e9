use Rattle.std.proofs.Common.{rules}
use Rattle.std.proofs.lemmas.List.Edits.{map_over_more}
use Rattle.std.proofs.lemmas.List.{take_all, drop_all}
use Rattle.desk_metrics.specs.Counts.{observed}
use Rattle.desk_metrics.proofs.latency.observe_all.Goals as goal

pub loop-bucket-preserved : goal.loop-bucket-preserved
loop-bucket-preserved c = search (rules, map_over_more (observed c.args.microseconds))

pub returns : goal.returns
returns c = search (rules, take_all, drop_all)
