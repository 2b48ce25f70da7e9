use Rattle.std.proofs.Common.{◌∙◌, List, ap, subst, sym}
use Rattle.desk_types.specs.declared.command.Entry.{Entry}
use Rattle.desk_replica.specs.EpochPackets.{packets_of_step}
use Rattle.desk_epoch_replica.specs.declared.item.EpochItem.TheVariants as items
use Rattle.desk_epoch_replica.specs.declared.replica_step.ReplicaStep.{ReplicaStep}
use Rattle.desk_epoch_replica.specs.declared.replica_step.ReplicaStep.TheVariants as out
use Rattle.desk_epoch_replica.specs.Deferring.{DoesReplicaItem, deferred_after}
use Rattle.desk_epoch_replica.specs.InOrder.{replica_further}
use Rattle.desk_epoch_replica.specs.Outgoing.{is_node_step}
use Rattle.desk_epoch_replica.proofs.DeferringSteps.{acted_runs, after_other, roomy_does, roomy_follows, ticked_own}
use Rattle.desk_epoch_replica.proofs.ReplicaSteps.{refuses_follows}
use Rattle.desk_epoch_replica.proofs.deferring_replica.DeferringReplica.tick.Goals as goal

pub returns-in-Err-clause-follows : goal.returns-in-Err-clause-follows
returns-in-Err-clause-follows g c =
    roomy_follows g.T.EpochStores.may_hold c.make_room.new.self.replica c.args.self.now.replica
    c.refuse.new.self.replica c.in-Err.ensures.same.0
    (refuses_follows c.make_room.new.self.replica c.refuse.new.self.replica c.refuse.ensures.refused.0)

pub returns-in-Ok-split_own-clause-did : goal.returns-in-Ok-split_own-clause-did
returns-in-Ok-split_own-clause-did g c =
    let own = c.in-Ok-split_own in
    let again = c.retry-own.ensures.retried in (
      out.Own own.epoch own.base own.step,
      c.act.new.self,
      roomy_does c.make_room.new.self.replica c.args.self.now.replica c.act.new.self items.Tick
          (out.Own own.epoch own.base own.step) c.in-Ok.ensures.same.0
          (subst (λ (s : ReplicaStep). DoesReplicaItem c.make_room.new.self.replica items.Tick s c.act.new.self)
          own.ensures
          c.in_ok-act.ensures.did),
      ticked_own g.T.EpochStores.may_hold c.act.new.self c.retry-own.new.self.replica
          c.make_room.new.self.deferred.items c.args.self.now.deferred.items c.retry-own.new.self.deferred.items
          own.epoch own.base own.step c.retry-own.new.step (packets_of_step c.own_step.result)
          c.own_step.result.answers again.0 again.1 c.retry-own.result c.in-Ok.ensures.same.1 again.2 again.3
          c.own_step.ensures.packets c.own_step.ensures.answers,
    )

pub returns-in-Ok-split_own-clause-follows : goal.returns-in-Ok-split_own-clause-follows
returns-in-Ok-split_own-clause-follows g c =
    roomy_follows g.T.EpochStores.may_hold c.make_room.new.self.replica c.args.self.now.replica
    c.retry-own.new.self.replica c.in-Ok.ensures.same.0
    (replica_further c.make_room.new.self.replica c.act.new.self c.retry-own.new.self.replica
    c.in_ok-act.ensures.follows c.retry-own.ensures.follows)

pub returns-in-Err-split_own-clause-did : goal.returns-in-Err-split_own-clause-did
returns-in-Err-split_own-clause-did g c =
    let other = c.in-Err-split_own.other in (
      other,
      c.act.new.self,
      roomy_does c.make_room.new.self.replica c.args.self.now.replica c.act.new.self items.Tick other
          c.in-Ok.ensures.same.0
          (subst (λ (s : ReplicaStep). DoesReplicaItem c.make_room.new.self.replica items.Tick s c.act.new.self)
          (sym c.in-Err-split_own.ensures.0) c.in_ok-act.ensures.did),
      after_other g.T.EpochStores.may_hold c.act.new.self c.send.new.self.replica c.args.self.now.deferred.items
          c.send.new.self.deferred.items other (packets_of_step c.send.result) c.send.result.answers
          (ap is_node_step c.in-Err-split_own.ensures.0 ∙ c.in-Err-split_own.ensures.1) c.send.ensures.sent
          c.send.ensures.answers
          (c.send.ensures.deferred ∙ ap (λ (held : List Entry). deferred_after held other) c.in-Ok.ensures.same.1),
    )

pub returns-in-Err-split_own-clause-follows : goal.returns-in-Err-split_own-clause-follows
returns-in-Err-split_own-clause-follows g c =
    acted_runs g.T.EpochStores.may_hold c.make_room.new.self.replica c.args.self.now.replica c.act.new.self
    c.send.new.self.replica c.in-Err-split_own.other (packets_of_step c.send.result) c.in-Ok.ensures.same.0
    c.in_ok-act.ensures.follows c.send.ensures.sent
