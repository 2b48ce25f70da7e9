use Rattle.desk_world.proofs.Requested as requested
use Rattle.desk_world.proofs.laws.only_requested.Goals as goal

pub returns : goal.returns
returns c = record { requested = requested.committed_is_requested }
