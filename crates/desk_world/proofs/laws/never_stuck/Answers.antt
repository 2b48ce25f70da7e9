use Rattle.desk_world.proofs.NeverStuck as run
use Rattle.desk_world.proofs.laws.never_stuck.Goals as goal

pub returns : goal.returns
returns c = record { served = run.never_stuck }
