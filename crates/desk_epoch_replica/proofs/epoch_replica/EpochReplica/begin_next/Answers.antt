use Rattle.std.proofs.Common.{◌≡◌, ◌∙◌, ap, subst, rules, None}
use Rattle.desk_epoch_node.specs.EpochValue.{EpochValue}
use Rattle.desk_epoch_replica.specs.declared.replica_step.ReplicaStep.TheVariants as out
use Rattle.desk_epoch_replica.specs.ReplicaValue.{ReplicaValue}
use Rattle.desk_epoch_replica.specs.Saves.{ReplicaBegins}
use Rattle.desk_epoch_replica.proofs.epoch_replica.EpochReplica.begin_next.Goals as goal

pub returns-clause-begun : goal.returns-clause-begun
returns-clause-begun g c =
    let b = rw c.in-Some.is at c.in_ok-ended.ensures.begun in
    let new : ReplicaValue g.row.T.Denot g.row.T-Store.Denot =
    record {
      member = c.begin_next.new.self;
      stores = c.begin_next.new.stores.stores;
      current = c.begin_next.new.stores.current;
      next = c.begin_next.new.stores.next;
      reported = c.self.inside.reported;
      unsaved = c.self.inside.unsaved;
    } in
    let none : c.self.inside.reported ≡ None = search rules in
    subst (λ (r : ReplicaValue g.row.T.Denot g.row.T-Store.Denot). ReplicaBegins g.T.Store.StateStore r
    (out.Began c.epoch-epoch.result c.in-Some.ended.packets) new)
    c.self.view_is
    (record {
      due = b.0;
      none = none;
      past = c.begin_next.ensures.past;
      begins = λ past s. (c.epoch-epoch.ensures.value ∙ ap (λ (e : EpochValue). e.epoch) c.node.ensures, b.1 past s);
      member = b.2;
      saved = record {
        last = b.3;
        running = b.4;
        saved = ap (λ (r : ReplicaValue g.row.T.Denot g.row.T-Store.Denot). r.unsaved) c.self.view_is
            ∙ c.requires.saved.saved;
      };
      reported_is = none;
    })
