use Rattle.std.proofs.Common.{rules}
use Rattle.std.proofs.lemmas.List.Edits.{map_over_more}
use Rattle.std.proofs.lemmas.List.{take_all, drop_all}
use Rattle.desk_epoch_replica.specs.Heard.{one_tick_older}
use Rattle.desk_epoch_replica.proofs.heard.age_rows.Goals as goal

pub loop-row-preserved : goal.loop-row-preserved
loop-row-preserved c = search (rules, map_over_more one_tick_older)

pub returns : goal.returns
returns c = search (rules, take_all, drop_all)
