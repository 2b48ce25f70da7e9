use Rattle.desk_refinement.proofs.EpochNodeGroups as groups
use Rattle.desk_refinement.proofs.epoch_nodes.Goals as goal

pub returns-clause-queued : goal.returns-clause-queued
returns-clause-queued g c = groups.queued_may_be_taken

pub returns-clause-groups : goal.returns-clause-groups
returns-clause-groups g c = groups.nodes_are_groups _ _ _

pub returns-clause-publish : goal.returns-clause-publish
returns-clause-publish g c = groups.nodes_publish _ _ _

pub returns-clause-agree : goal.returns-clause-agree
returns-clause-agree g c = groups.nodes_agree _ _ _
