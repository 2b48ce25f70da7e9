use Rattle.std.proofs.Common.{◌∙◌, List, ap}
use Rattle.desk_types.specs.declared.command.Entry.{Entry}
use Rattle.desk_replica.specs.EpochPackets.{packets_of_step}
use Rattle.desk_epoch_replica.specs.Deferring.{deferred_after}
use Rattle.desk_epoch_replica.proofs.DeferringSteps.{acted_runs, roomy_does, roomy_follows}
use Rattle.desk_epoch_replica.proofs.ReplicaSteps.{refuses_follows}
use Rattle.desk_epoch_replica.proofs.deferring_replica.DeferringReplica.act.Goals as goal

pub returns-in_ok-step-in-Ok-clause-did : goal.returns-in_ok-step-in-Ok-clause-did
returns-in_ok-step-in-Ok-clause-did g c = (
  c.in_ok-step-in-Ok.step,
  c.act.new.self,
  roomy_does c.make_room.new.self.replica c.args.self.now.replica c.act.new.self c.args.item c.in_ok-step-in-Ok.step
      c.in-Ok.ensures.same.0 c.in_ok-step-in-Ok.ensures.did,
  c.send.ensures.sent,
  c.send.ensures.answers,
  c.send.ensures.deferred
      ∙ ap (λ (held : List Entry). deferred_after held c.in_ok-step-in-Ok.step) c.in-Ok.ensures.same.1,
)

pub returns-in_ok-step-in-Ok-clause-follows : goal.returns-in_ok-step-in-Ok-clause-follows
returns-in_ok-step-in-Ok-clause-follows g c =
    acted_runs g.T.EpochStores.may_hold c.make_room.new.self.replica c.args.self.now.replica c.act.new.self
    c.send.new.self.replica c.in_ok-step-in-Ok.step (packets_of_step c.send.result) c.in-Ok.ensures.same.0
    c.in_ok-step-in-Ok.ensures.follows c.send.ensures.sent

pub returns-in-Err-clause-follows : goal.returns-in-Err-clause-follows
returns-in-Err-clause-follows g c =
    roomy_follows g.T.EpochStores.may_hold c.make_room.new.self.replica c.args.self.now.replica
    c.refuse.new.self.replica c.in-Err.ensures.same.0
    (refuses_follows c.make_room.new.self.replica c.refuse.new.self.replica c.refuse.ensures.refused.0)
