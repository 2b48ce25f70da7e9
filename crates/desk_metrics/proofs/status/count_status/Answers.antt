use Rattle.std.proofs.Common.{rules}
use Rattle.std.proofs.lemmas.List.Edits.{map_over_more}
use Rattle.std.proofs.lemmas.List.{take_all, drop_all}
use Rattle.desk_metrics.specs.Counts.{counted_status}
use Rattle.desk_metrics.proofs.status.count_status.Goals as goal

pub loop-row-preserved : goal.loop-row-preserved
loop-row-preserved c = search (rules, map_over_more (counted_status c.args.status))

pub returns : goal.returns
returns c = search (rules, take_all, drop_all)
