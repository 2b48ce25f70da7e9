use Rattle.desk_refinement.proofs.EpochMemberGroups as groups
use Rattle.desk_refinement.proofs.epoch_members.Goals as goal

pub returns-clause-groups : goal.returns-clause-groups
returns-clause-groups g c = groups.members_are_groups _ _ _

pub returns-clause-publish : goal.returns-clause-publish
returns-clause-publish g c = groups.members_publish _ _ _

pub returns-clause-agree : goal.returns-clause-agree
returns-clause-agree g c = groups.members_agree _ _ _
