use Rattle.std.specs.Prelude.{All}
use Rattle.desk_mailbox.specs.Ends.{SendsTo}
use Rattle.tests_sessions.proofs.tests.ends.gather_ends.Given as goal

-- each sender that is left puts into the mailbox
abbrev pub invariant-loop : goal.invariant-loop
invariant-loop g l = All (SendsTo l.gathered.mailbox.taker) l.senders.items
