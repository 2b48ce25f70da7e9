use Rattle.desk_epoch_replica.proofs.FollowedSteps.{epoch_still}
use Rattle.desk_epoch_replica.proofs.epoch_member.EpochMember.packet.Goals as goal

pub returns-then-is_tell-clause-follows : goal.returns-then-is_tell-clause-follows
returns-then-is_tell-clause-follows c = epoch_still c.args.self.now.node
