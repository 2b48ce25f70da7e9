use Rattle.desk_epoch_replica.specs.DeferringSaves.{saved_before}
use Rattle.desk_epoch_replica.specs.ReplicaValue.{with_stores}
use Rattle.desk_epoch_replica.proofs.keeping.DeferringReplicaSavedReplica.save.Goals as goal

pub save-requires : goal.save-requires
save-requires g c = (
  with_stores c.args.self.now.replica.stores c.requires.0.replica,
  saved_before g.T.EpochStores.may_hold g.T.Store.StateStore c.args.self.now.replica.stores c.requires.0.replica
      c.requires.1.0,
  c.requires.2.1,
  c.requires.3,
)
