use Rattle.std.proofs.Common.{◌≡◌, length}
use Rattle.desk_follow.proofs.asking.ask_twice.Given as goal

abbrev pub invariant-loop-node : goal.invariant-loop-node
invariant-loop-node g l = length l.answers.items ≡ l.node
