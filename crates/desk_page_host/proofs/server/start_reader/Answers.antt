use denote.Param.Send.{sendable}
use Rattle.std.proofs.Crossing.{crosses}
use Rattle.desk_follow.proofs.Crossing.{nodes_cross}
use Rattle.desk_page.proofs.Crossing.{shared_crosses, shared_is_shared}
use Rattle.desk_page_host.proofs.server.start_reader.Goals as goal

pub spawn-requires-send-F : goal.spawn-requires-send-F
spawn-requires-send-F g c κs within =
    let r = c.type_bounds.send-R in
    search (shared_crosses, shared_is_shared, nodes_cross, crosses, sendable) depth 60 fits 5000
