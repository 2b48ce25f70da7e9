use Rattle.desk_network.proofs.QueuedPacket.{queued_one}
use Rattle.desk_network.proofs.keeping.QueuedPacketsOut.hand.Goals as goal

pub returns : goal.returns
returns g c =
    let put = c.put.ensures in queued_one _ _ c.args.to c.args.packet c.put.result put.put put.same put.others
