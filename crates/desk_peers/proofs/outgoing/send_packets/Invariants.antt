use Rattle.std.proofs.Common.{◌≡◌, ◌++◌, List}
use Rattle.desk_types.specs.declared.epoch_packet.EpochPacket.{EpochPacket}
use Rattle.desk_mailbox.specs.declared.rule.SentItem.{SentItem}
use Rattle.desk_mailbox.specs.Ends.{taken_by, IsSameTaker}
use Rattle.desk_peers.specs.Outgoing.{packets_in}
use Rattle.desk_peers.proofs.Carrying.{Goes}
use Rattle.desk_peers.proofs.outgoing.send_packets.Given as goal

abbrev pub invariant-loop : goal.invariant-loop
invariant-loop g l = record {
  same : IsSameTaker l.fn.queue.taker l.taker;
  taken : (taken : List (SentItem EpochPacket)) × (taken_by l.taker ≡ taken_by l.fn.queue.taker ++ taken)
      × Goes l.fn.places.places (g.C.Connect.closed l.fn.connector) (packets_in taken) l.link;
}
