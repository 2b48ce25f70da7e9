use Rattle.desk_epoch_replica.specs.DeferringSaves.{deferring_still}
use Rattle.desk_epoch_replica.proofs.keeping.DeferringReplicaReplica.do_item.Goals as goal

pub returns-in-Stop-clause-follows : goal.returns-in-Stop-clause-follows
returns-in-Stop-clause-follows g c = deferring_still g.T.EpochStores.may_hold c.args.self.now
