use Rattle.std.proofs.Common.{rules}
use Rattle.desk_peers.proofs.Opening.{opens_new, opens_more}
use Rattle.desk_peers.proofs.queues.open_queues.Goals as goal

pub loop-node-init : goal.loop-node-init
loop-node-init g c =
    opens_new c.args.id c.new-ends.result.items c.new-queues.result.items (search rules) (search rules)

pub loop-node-preserved : goal.loop-node-preserved
loop-node-preserved g c = opens_more c.args.id _ _ _ c.loop-node.invariant _ _ c.in_ok-add_node.ensures
