use Rattle.std.proofs.Common.{ap, subst}
use Rattle.std.specs.Prelude.{IfOk}
use Rattle.desk_epoch_node.specs.Deeds.{deed}
use Rattle.desk_epoch_node.specs.EpochValue.{EpochValue}
use Rattle.desk_epoch_replica.specs.Follows.{EpochFollows}
use Rattle.desk_epoch_replica.specs.MemberValue.{MemberValue}
use Rattle.desk_epoch_replica.specs.Steps.{reported_log}
use Rattle.desk_epoch_replica.proofs.FollowedSteps.{outcome_follows, outcome_keeps_past}
use Rattle.desk_epoch_replica.proofs.epoch_member.EpochMember.step.Goals as goal

pub invariant_of-self : goal.invariant_of-self
invariant_of-self c =
    outcome_keeps_past (λ past. deed past c.self.inside.node c.args.event) c.self.inside.node c.step.new.self
    c.step.result c.self.invariant c.step.ensures.step c.step.ensures.err

pub returns-clause-follows : goal.returns-clause-follows
returns-clause-follows c =
    subst (λ (e : EpochValue). IfOk c.step.result (λ made. EpochFollows (reported_log made) e c.step.new.self))
    (ap (λ (m : MemberValue). m.node) c.self.view_is)
    (outcome_follows (λ past. deed past c.self.inside.node c.args.event) c.self.inside.node c.step.new.self
    c.step.result c.self.invariant c.step.ensures.step)
