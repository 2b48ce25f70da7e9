use Rattle.std.proofs.Common.{◌∙◌, sym, ap, subst}
use Rattle.desk_node.specs.NodeValue.{NodeValue}
use Rattle.desk_epoch_node.specs.EpochValue.{EpochValue}
use Rattle.desk_epoch_replica.specs.Follows.{ReplicaFollows}
use Rattle.desk_epoch_replica.specs.ReplicaValue.{ReplicaValue}
use Rattle.desk_epoch_replica.proofs.SavedFronts.{known_reported, known_same}
use Rattle.desk_epoch_replica.proofs.epoch_replica.EpochReplica.save.Goals as goal

pub save-requires-clause-within : goal.save-requires-clause-within
save-requires-clause-within g c =
    (known_same g.T.Store.StateStore c.args.known c.requires.0 _ c.saved.result.now c.requires.1
    (subst (λ (r : ReplicaValue g.row.T.Denot g.row.T-Store.Denot). ReplicaFollows c.requires.0 r)
    (sym c.self.view_is) c.requires.2) c.requires.3 c.if-not-unsaved.true
    (c.saved.ensures ∙ ap (λ (n : NodeValue). n.saved) (c.node-then-not-unsaved.ensures
    ∙ ap (λ (e : EpochValue). e.node) c.node.ensures))).0

pub save-requires-clause-same : goal.save-requires-clause-same
save-requires-clause-same g c =
    (known_same g.T.Store.StateStore c.args.known c.requires.0 _ c.saved.result.now c.requires.1
    (subst (λ (r : ReplicaValue g.row.T.Denot g.row.T-Store.Denot). ReplicaFollows c.requires.0 r)
    (sym c.self.view_is) c.requires.2) c.requires.3 c.if-not-unsaved.true
    (c.saved.ensures ∙ ap (λ (n : NodeValue). n.saved) (c.node-then-not-unsaved.ensures
    ∙ ap (λ (e : EpochValue). e.node) c.node.ensures))).1

pub begin_with_rest-requires-clause-within : goal.begin_with_rest-requires-clause-within
begin_with_rest-requires-clause-within g c =
    (known_reported g.T.Store.StateStore c.args.known c.requires.0 _ c.in-Some.reported c.requires.1
    (subst (λ (r : ReplicaValue g.row.T.Denot g.row.T-Store.Denot). ReplicaFollows c.requires.0 r)
    (sym c.self.view_is) c.requires.2) c.requires.3 c.if-not-unsaved.false c.in-Some.is).0

pub begin_with_rest-requires-clause-same : goal.begin_with_rest-requires-clause-same
begin_with_rest-requires-clause-same g c =
    (known_reported g.T.Store.StateStore c.args.known c.requires.0 _ c.in-Some.reported c.requires.1
    (subst (λ (r : ReplicaValue g.row.T.Denot g.row.T-Store.Denot). ReplicaFollows c.requires.0 r)
    (sym c.self.view_is) c.requires.2) c.requires.3 c.if-not-unsaved.false c.in-Some.is).1
