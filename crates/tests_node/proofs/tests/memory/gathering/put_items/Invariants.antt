use Rattle.desk_mailbox.specs.Ends.{IsSameSender}
use Rattle.tests_node.proofs.tests.memory.gathering.put_items.Given as goal

abbrev pub invariant-loop-given : goal.invariant-loop-given
invariant-loop-given g l = IsSameSender l.fn.sender l.sender
