use Rattle.desk_peers.proofs.Starts.{filled_none}
use Rattle.desk_peers.proofs.start.read_up_to.Goals as goal

pub loop-reads-init : goal.loop-reads-init
loop-reads-init g c = record { filled = filled_none _ _; within = c.requires }
