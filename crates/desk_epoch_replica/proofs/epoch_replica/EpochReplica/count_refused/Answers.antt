use Rattle.std.proofs.Common.{subst, refl}
use Rattle.desk_epoch_replica.specs.Follows.{ReplicaFollows}
use Rattle.desk_epoch_replica.specs.ReplicaValue.{ReplicaValue}
use Rattle.desk_epoch_replica.proofs.ReplicaSteps.{refuses_follows}
use Rattle.desk_epoch_replica.proofs.epoch_replica.EpochReplica.count_refused.Goals as goal

pub returns-clause-follows : goal.returns-clause-follows
returns-clause-follows g c =
    let new : ReplicaValue g.row.T.Denot g.row.T-Store.Denot =
    record {
      member = c.refuse.new.self;
      stores = c.self.inside.stores.stores;
      current = c.self.inside.stores.current;
      next = c.self.inside.stores.next;
      reported = c.self.inside.reported;
      unsaved = c.self.inside.unsaved;
    } in
    subst (λ (r : ReplicaValue g.row.T.Denot g.row.T-Store.Denot). ReplicaFollows r new) c.self.view_is
    (refuses_follows _ new
    (record {
      member_is = c.refuse.ensures;
      reported_is = refl;
      unsaved_is = refl;
      stores = record { stores_are = refl; current_is = refl; next_is = refl };
    }))
