use Rattle.desk_archive.proofs.Named.{named_there}
use Rattle.desk_archive.proofs.archived.archived_owner.Goals as goal

pub returns-then-is_same_node-clause-there : goal.returns-then-is_same_node-clause-there
returns-then-is_same_node-clause-there g c clean =
    named_there _ c.in-Some.named (rw c.in-Some.is at (c.in_ok-named.ensures.found clean))
