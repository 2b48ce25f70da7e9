use Rattle.std.proofs.Common.{Some, subst}
use Rattle.desk_mailbox.specs.Ends.{put_by}
use Rattle.desk_peers.specs.Incoming.{HasPutOnlyOf}
use Rattle.desk_connections.proofs.connections.take_admitted.Goals as goal

pub returns : goal.returns
returns g c =
    subst (λ from. HasPutOnlyOf (Some from) (put_by c.args.sender) (put_by c.take_packets-sender.result.0))
    c.from_node-from.ensures c.take_packets-sender.ensures.from
