use Rattle.desk_replica.specs.EpochPackets.{packets_under}
use Rattle.desk_threads.proofs.handing.hand_all.Given as goal

abbrev pub invariant-loop-to : goal.invariant-loop-to
invariant-loop-to g l = g.O.Out.takes l.fn.out (packets_under l.fn.epoch l.fn.purpose l.yielded) l.out
