use Rattle.std.proofs.Common.{[], append-nil, sym}
use Rattle.desk_epoch_replica.proofs.DeferringSteps.{put_other}
use Rattle.desk_epoch_replica.proofs.deferring_replica.DeferringReplica.put.Goals as goal

pub returns-in-Err-clause-put : goal.returns-in-Err-clause-put
returns-in-Err-clause-put g c = (
  [],
  [],
  put_other c.args.made c.in-Err.other c.args.self.now.deferred.items c.hold_on_where_deferred.new.self.deferred.items
      c.own_answer.result c.in-Err.ensures.0 c.in-Err.ensures.1 c.own_answer.ensures
      c.hold_on_where_deferred.ensures.deferred,
  (sym (append-nil c.args.step.now.packets.items), sym (append-nil c.args.step.now.answers.items)),
)
