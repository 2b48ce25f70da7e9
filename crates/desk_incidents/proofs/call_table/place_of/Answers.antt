use Rattle.std.proofs.Common.{◌∙◌}
use Rattle.desk_incidents.proofs.MovedCalls.{place-of-key}
use Rattle.desk_incidents.proofs.call_table.place_of.Goals as goal

pub returns : goal.returns
returns c = c.get_index_of.ensures.index ∙ place-of-key c.args.call.now c.args.table.now.entries
