use Rattle.std.proofs.Common.{◌≡◌, map, take}
use Rattle.desk_world.proofs.world.GroupRun.saved_states.Given as goal

abbrev pub invariant-loop-node : goal.invariant-loop-node
invariant-loop-node l = l.saved.items ≡ map (λ v. v.saved) (take l.node-index l.self.nodes)
