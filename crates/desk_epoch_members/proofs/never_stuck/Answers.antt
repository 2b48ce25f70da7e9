use Rattle.desk_epoch_members.proofs.NeverStuck as stuck
use Rattle.desk_epoch_members.proofs.never_stuck.Goals as goal

pub returns-clause-served : goal.returns-clause-served
returns-clause-served c = stuck.members_never_stuck

pub returns-clause-replaced : goal.returns-clause-replaced
returns-clause-replaced c = stuck.named_nodes_act
