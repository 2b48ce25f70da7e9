use Rattle.std.proofs.Common.{rules}
use Rattle.std.proofs.lemmas.List.Edits.{map_over_more}
use Rattle.std.proofs.lemmas.List.{take_all, drop_all}
use Rattle.desk_threads.specs.Waiting.{after_stop}
use Rattle.desk_threads.proofs.waiting.stop_all.Goals as goal

pub loop-session-preserved : goal.loop-session-preserved
loop-session-preserved g c = search (rules, map_over_more after_stop)

pub returns : goal.returns
returns g c = search (rules, take_all, drop_all)
