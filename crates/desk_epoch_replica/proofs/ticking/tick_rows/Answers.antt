use Rattle.std.proofs.Common.{rules}
use Rattle.std.proofs.lemmas.List.Edits.{map_over_more}
use Rattle.std.proofs.lemmas.List.{take_all, drop_all}
use Rattle.desk_epoch_replica.specs.declared.limits.TheConstants.{TELL_TICKS}
use Rattle.desk_epoch_replica.specs.Ticks.{one_more_up_to}
use Rattle.desk_epoch_replica.proofs.ticking.tick_rows.Goals as goal

pub loop-row-preserved : goal.loop-row-preserved
loop-row-preserved c = search (rules, map_over_more (one_more_up_to TELL_TICKS))

pub returns : goal.returns
returns c = search (rules, take_all, drop_all)
