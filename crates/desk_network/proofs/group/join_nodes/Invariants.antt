use Rattle.std.proofs.Common.{IfErr}
use Rattle.desk_network.specs.Ends.{IsServingEnd}
use Rattle.desk_network.proofs.group.join_nodes.Given as goal

abbrev pub invariant-loop-keeper : goal.invariant-loop-keeper
invariant-loop-keeper g l = IfErr l.outcome IsServingEnd
