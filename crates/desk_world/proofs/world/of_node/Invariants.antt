use Rattle.std.proofs.Common.{◌≡◌, map}
use Rattle.desk_world.proofs.world.of_node.Given as goal

abbrev pub invariant-loop-answer : goal.invariant-loop-answer
invariant-loop-answer l = l.pairs.items ≡ map (λ a. (l.node, a)) l.yielded
