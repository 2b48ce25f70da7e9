use Rattle.desk_codec.proofs.Wholes.{SoFar}
use Rattle.desk_codec.proofs.packet.whole_packet.Given as goal

abbrev pub invariant-loop-more : goal.invariant-loop-more
invariant-loop-more l = SoFar l.bytes l.start l.entries.items l.at l.more

abbrev pub decreases-loop-more : goal.decreases-loop-more
decreases-loop-more l = l.more
