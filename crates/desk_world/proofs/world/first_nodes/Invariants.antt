use Rattle.std.proofs.Common.{◌≡◌}
use Rattle.desk_world.specs.Group.{first_nodes}
use Rattle.desk_world.proofs.world.first_nodes.Given as goal

abbrev pub invariant-loop-id : goal.invariant-loop-id
invariant-loop-id l = l.nodes.items ≡ first_nodes l.domain l.n l.id
