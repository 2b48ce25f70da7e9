use Rattle.std.proofs.Common.{◌∙◌, sym, ap, subst, refl}
use Rattle.desk_epoch_replica.specs.Follows.{ReplicaFollows, reported_after, unsaved_after}
use Rattle.desk_epoch_replica.specs.ReplicaValue.{ReplicaValue, takes_logs}
use Rattle.desk_epoch_replica.proofs.ReplicaSteps.{done_follows, refuses_follows}
use Rattle.desk_epoch_replica.proofs.epoch_replica.EpochReplica.act.Goals as goal

pub returns-in_err-step-clause-follows : goal.returns-in_err-step-clause-follows
returns-in_err-step-clause-follows g c =
    let new : ReplicaValue g.row.T.Denot g.row.T-Store.Denot =
    record {
      member = c.act.new.self;
      stores = c.self.inside.stores.stores;
      current = c.self.inside.stores.current;
      next = c.self.inside.stores.next;
      reported = c.self.inside.reported;
      unsaved = c.self.inside.unsaved;
    } in
    subst (λ (r : ReplicaValue g.row.T.Denot g.row.T-Store.Denot). ReplicaFollows r new) c.self.view_is
    (refuses_follows _ new
    (record {
      member_is = c.in_err-step.ensures.err;
      reported_is = refl;
      unsaved_is = refl;
      stores = record { stores_are = refl; current_is = refl; next_is = refl };
    }))

pub returns-clause-follows : goal.returns-clause-follows
returns-clause-follows g c =
    let old : ReplicaValue g.row.T.Denot g.row.T-Store.Denot =
    record {
      member = c.self.inside.member;
      stores = c.self.inside.stores.stores;
      current = c.self.inside.stores.current;
      next = c.self.inside.stores.next;
      reported = c.self.inside.reported;
      unsaved = c.self.inside.unsaved;
    } in
    let new : ReplicaValue g.row.T.Denot g.row.T-Store.Denot =
    record {
      member = c.act.new.self;
      stores = c.self.inside.stores.stores;
      current = c.self.inside.stores.current;
      next = c.self.inside.stores.next;
      reported = reported_after c.self.inside.reported c.in_ok-step.log;
      unsaved = unsaved_after c.self.inside.unsaved c.in_ok-step.log;
    } in
    subst (λ (r : ReplicaValue g.row.T.Denot g.row.T-Store.Denot). ReplicaFollows r c.note_report.new.self)
    c.self.view_is
    (subst (λ (r : ReplicaValue g.row.T.Denot g.row.T-Store.Denot). ReplicaFollows old r)
    (sym c.note_report.ensures)
    (done_follows old new c.in_ok-step.log c.takes_logs-takes.result
    (ap (λ (r : ReplicaValue g.row.T.Denot g.row.T-Store.Denot). takes_logs r) c.self.view_is
    ∙ sym c.takes_logs-takes.ensures) c.in_ok-step.ensures.untaken
    (record { stores_are = refl; current_is = refl; next_is = refl }) c.in_ok-step.ensures.follows refl refl))
