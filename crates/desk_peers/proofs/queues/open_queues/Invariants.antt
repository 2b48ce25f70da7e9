use Rattle.desk_peers.proofs.Opening.{IsOpen}
use Rattle.desk_peers.proofs.queues.open_queues.Given as goal

abbrev pub invariant-loop-node : goal.invariant-loop-node
invariant-loop-node g l = IsOpen l.fn.id l.node l.ends.items l.queues.items
