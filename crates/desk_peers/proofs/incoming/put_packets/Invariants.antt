use Rattle.desk_mailbox.specs.Ends.{put_by, IsSameSender}
use Rattle.desk_peers.specs.Incoming.{HasPutOf}
use Rattle.desk_peers.proofs.incoming.put_packets.Given as goal

abbrev pub invariant-loop-packet : goal.invariant-loop-packet
invariant-loop-packet g l = record {
  same : IsSameSender l.fn.sender l.sender;
  put : HasPutOf l.fn.header l.fn.from (put_by l.fn.sender) (put_by l.sender) l.yielded;
}
