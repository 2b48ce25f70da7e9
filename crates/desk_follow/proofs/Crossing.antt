-- Who asks the nodes of a group may go to another thread. Each part is shown by itself: one `search` through all of
-- them runs out of steps.
use denote.RattleType.{RattleType}
use denote.Param.Send.{IsSend, sendable}
use Rattle.std.proofs.Crossing.{crosses}
use Rattle.std.specs.declared.io.traits.Read as Read
use Rattle.std.specs.declared.io.traits.Write as Write
use Rattle.desk_admission.specs.contracts.address.GroupAddress as GroupAddress
use Rattle.desk_follow.specs.contracts.group_nodes.GroupNodes as GroupNodes
use Rattle.desk_follow.specs.contracts.node_stream.NodeStream as NodeStream
use Rattle.desk_follow.specs.contracts.try_log.TryLog as TryLog

tries_cross : IsSend TryLog.the_field.row
tries_cross = search (crosses, sendable) depth 20

stream_crosses : (T U : RattleType) (r : Read.Ghosts T.Denot) (w : Write.Ghosts U.Denot) → IsSend T → IsSend U →
    IsSend (NodeStream.the_field T U r w).row
stream_crosses T U r w t u = search (crosses, sendable) depth 40 fits 5000

address_crosses : IsSend GroupAddress.the_field.row
address_crosses = search (crosses, sendable) depth 40 fits 5000

pub nodes_cross : (R S : RattleType) → IsSend R → IsSend (GroupNodes.the_field R S).row
nodes_cross R S r = search (tries_cross, stream_crosses, address_crosses, crosses, sendable) depth 40 fits 5000
