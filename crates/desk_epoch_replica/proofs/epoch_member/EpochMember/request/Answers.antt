use Rattle.std.proofs.Common.{subst, sym}
use Rattle.desk_epoch_node.specs.declared.step.EpochStep.{EpochStep}
use Rattle.desk_epoch_replica.specs.Follows.{EpochFollows}
use Rattle.desk_epoch_replica.specs.Steps.{reported_log}
use Rattle.desk_epoch_replica.proofs.FollowedSteps.{epoch_still}
use Rattle.desk_epoch_replica.proofs.epoch_member.EpochMember.request.Goals as goal

pub returns-then-refuses_replacement-clause-follows : goal.returns-then-refuses_replacement-clause-follows
returns-then-refuses_replacement-clause-follows c =
    let e = c.args.self.now.node in
    subst (λ (made : EpochStep). EpochFollows (reported_log made) e e) (sym c.refuse_unheard.ensures) (epoch_still e)
