use Rattle.desk_mailbox.specs.Ends.{IsSameSender}
use Rattle.tests_node.proofs.tests.memory.gathering.put_numbers.Given as goal

abbrev pub invariant-loop-number : goal.invariant-loop-number
invariant-loop-number g l = IsSameSender l.fn.sender l.sender
