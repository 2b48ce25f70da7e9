use Rattle.std.proofs.Common.{refl}
use Rattle.desk_epoch_replica.proofs.Preparations.{refused_beginning}
use Rattle.desk_epoch_replica.proofs.keeping.DeferringReplicaSavedReplica.begin_next.Goals as goal

pub returns-in-Err-clause-refused : goal.returns-in-Err-clause-refused
returns-in-Err-clause-refused g c =
    refused_beginning g.T.EpochStores.may_hold g.T.Store.StateStore c.args.self.now
    (record { replica = c.begin_next.new.self; deferred = c.args.self.now.deferred }) c.in-Err.refusal
    c.in-Err.ensures.fault c.in-Err.ensures.refused c.in-Err.ensures.unsaved refl
