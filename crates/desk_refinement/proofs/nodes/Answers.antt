use Rattle.desk_refinement.proofs.NodeGroups as groups
use Rattle.desk_refinement.proofs.Queued as queued
use Rattle.desk_refinement.proofs.nodes.Goals as goal

pub returns-clause-queued : goal.returns-clause-queued
returns-clause-queued g c = queued.queued_may_be_taken

pub returns-clause-groups : goal.returns-clause-groups
returns-clause-groups g c = groups.nodes_are_groups _ _

pub returns-clause-publish : goal.returns-clause-publish
returns-clause-publish g c = groups.turns_publish _ _
