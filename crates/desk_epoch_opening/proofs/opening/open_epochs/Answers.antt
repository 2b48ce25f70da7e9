use Rattle.std.proofs.Common.{◌∙◌, ap, subst, sym}
use Rattle.desk_epoch_node.specs.EpochValue.{standing_of}
use Rattle.desk_epoch_replica.specs.MemberValue.{MemberValue}
use Rattle.desk_epoch_replica.specs.ReplicaValue.{was_replaced}
use Rattle.desk_published.specs.Writer.{published}
use Rattle.desk_epoch_opening.specs.Pasts.{past_in}
use Rattle.desk_epoch_opening.specs.Opened.{IsOpened}
use Rattle.desk_epoch_opening.proofs.Starts.{at_ok, equals_all, none_in_past, opened_at, opened_noted, opened_on}
use Rattle.desk_epoch_opening.proofs.Starts.{stays_started}
use Rattle.desk_epoch_opening.proofs.opening.open_epochs.Goals as goal

pub start_replica-requires-clause-past : goal.start_replica-requires-clause-past
start_replica-requires-clause-past g c =
    let o = c.in-Ok-outcome.opened in
    let p = c.publish_epochs-writer in
    (past_in o.past p.result.0.noted, at_ok _ _ _ c.in-Ok-outcome.is p.ensures.past)

pub open_replica-requires-clause-domain : goal.open_replica-requires-clause-domain
open_replica-requires-clause-domain g c =
    ap (λ (m : MemberValue). m.node.node.domain) c.in-Ok-start_replica.ensures.member ∙ c.requires.domain

pub open_replica-requires-clause-saved : goal.open_replica-requires-clause-saved
open_replica-requires-clause-saved g c =
    let s = c.in-Ok-start_replica.ensures in
    (s.saved, none_in_past c.in-Ok-start_replica.replica.replica s.reported)

pub open_replica-requires-clause-noted : goal.open_replica-requires-clause-noted
open_replica-requires-clause-noted g c =
    let p = c.publish_epochs-writer.ensures in
    let w = c.publish_epochs-writer.result.0 in
    let o = c.in-Ok-outcome.opened in
    let s = c.in-Ok-start_replica.ensures in
    let r = c.in-Ok-start_replica.replica in
    let opened = opened_at g.T.Store.StateStore (g.T.EpochStores.may_hold c.args.stores) c.args.owner c.args.token
    c.args.most o.most o.epoch o.past o.saved r.replica w.noted s.member s.epoch s.past s.store s.saved
    (at_ok _ _ _ c.in-Ok-outcome.is p.most) (at_ok _ _ _ c.in-Ok-outcome.is p.held)
    (at_ok _ _ _ c.in-Ok-outcome.is p.current)
    (at_ok _ _ _ c.in-Ok-outcome.is p.logs) (at_ok _ _ _ c.in-Ok-outcome.is p.past)
    (at_ok _ _ _ c.in-Ok-outcome.is p.noted) in
    (opened_noted g.T.EpochStores.may_hold g.T.Store.StateStore (g.T.EpochStores.may_hold c.args.stores) c.args.owner
    c.args.token c.args.most r w.noted s.reported opened).0

pub open_replica-requires-clause-held : goal.open_replica-requires-clause-held
open_replica-requires-clause-held g c =
    let w = c.publish_epochs-writer.result.0 in
    equals_all (published w.inner) w.noted (at_ok _ _ _ c.in-Ok-outcome.is c.publish_epochs-writer.ensures.shown)

pub open_replica-requires-clause-whole : goal.open_replica-requires-clause-whole
open_replica-requires-clause-whole g c =
    let p = c.publish_epochs-writer.ensures in
    let w = c.publish_epochs-writer.result.0 in
    let o = c.in-Ok-outcome.opened in
    let s = c.in-Ok-start_replica.ensures in
    let r = c.in-Ok-start_replica.replica in
    let opened = opened_at g.T.Store.StateStore (g.T.EpochStores.may_hold c.args.stores) c.args.owner c.args.token
    c.args.most o.most o.epoch o.past o.saved r.replica w.noted s.member s.epoch s.past s.store s.saved
    (at_ok _ _ _ c.in-Ok-outcome.is p.most) (at_ok _ _ _ c.in-Ok-outcome.is p.held)
    (at_ok _ _ _ c.in-Ok-outcome.is p.current)
    (at_ok _ _ _ c.in-Ok-outcome.is p.logs) (at_ok _ _ _ c.in-Ok-outcome.is p.past)
    (at_ok _ _ _ c.in-Ok-outcome.is p.noted) in
    at_ok _ _ _ c.in-Ok-outcome.is p.shown
    ∙ (opened_noted g.T.EpochStores.may_hold g.T.Store.StateStore (g.T.EpochStores.may_hold c.args.stores) c.args.owner
    c.args.token c.args.most r w.noted s.reported opened).1

pub returns-in-Ok-open_replica-clause-opened : goal.returns-in-Ok-open_replica-clause-opened
returns-in-Ok-open_replica-clause-opened g c =
    let p = c.publish_epochs-writer.ensures in
    let w = c.publish_epochs-writer.result.0 in
    let o = c.in-Ok-outcome.opened in
    let s = c.in-Ok-start_replica.ensures in
    let r = c.in-Ok-start_replica.replica in
    let opened = opened_at g.T.Store.StateStore (g.T.EpochStores.may_hold c.args.stores) c.args.owner c.args.token
    c.args.most o.most o.epoch o.past o.saved r.replica w.noted s.member s.epoch s.past s.store s.saved
    (at_ok _ _ _ c.in-Ok-outcome.is p.most) (at_ok _ _ _ c.in-Ok-outcome.is p.held)
    (at_ok _ _ _ c.in-Ok-outcome.is p.current)
    (at_ok _ _ _ c.in-Ok-outcome.is p.logs) (at_ok _ _ _ c.in-Ok-outcome.is p.past)
    (at_ok _ _ _ c.in-Ok-outcome.is p.noted) in
    let e = c.in-Ok-open_replica.ends.0 in
    let stays = stays_started g.T.EpochStores.may_hold g.T.Store.StateStore r e.replica
    c.in-Ok-open_replica.ensures.replica in
    subst (λ list. IsOpened g.T.Store.StateStore (g.T.EpochStores.may_hold c.args.stores) c.args.owner c.args.token
    c.args.most e.replica.replica list)
    (sym (at_ok _ _ _ c.in-Ok-outcome.is p.shown)
    ∙ ap (λ (b : _). published b.inner) (sym c.in-Ok-open_replica.ensures.writer))
    (opened_on g.T.EpochStores.may_hold g.T.Store.StateStore (g.T.EpochStores.may_hold c.args.stores) c.args.owner
    c.args.token c.args.most r e.replica w.noted stays opened)

pub returns-in-Ok-open_replica-clause-stores : goal.returns-in-Ok-open_replica-clause-stores
returns-in-Ok-open_replica-clause-stores g c =
    let s = c.in-Ok-start_replica.ensures in
    let r = c.in-Ok-start_replica.replica in
    let stays = stays_started g.T.EpochStores.may_hold g.T.Store.StateStore r c.in-Ok-open_replica.ends.0.replica
    c.in-Ok-open_replica.ensures.replica in
    λ epoch saved h. c.publish_epochs-writer.ensures.same epoch saved
    (s.stores epoch saved (stays.stores epoch saved h))

pub returns-in-Ok-open_replica-clause-reported : goal.returns-in-Ok-open_replica-clause-reported
returns-in-Ok-open_replica-clause-reported g c =
    (stays_started g.T.EpochStores.may_hold g.T.Store.StateStore c.in-Ok-start_replica.replica
    c.in-Ok-open_replica.ends.0.replica c.in-Ok-open_replica.ensures.replica).reported_is
    ∙ c.in-Ok-start_replica.ensures.reported

pub returns-in-Ok-open_replica-clause-deferred : goal.returns-in-Ok-open_replica-clause-deferred
returns-in-Ok-open_replica-clause-deferred g c =
    ap (λ (held : _). held.items)
    (stays_started g.T.EpochStores.may_hold g.T.Store.StateStore c.in-Ok-start_replica.replica
    c.in-Ok-open_replica.ends.0.replica c.in-Ok-open_replica.ensures.replica).deferred_is
    ∙ c.in-Ok-start_replica.ensures.deferred

pub returns-in-Ok-open_replica-clause-acting : goal.returns-in-Ok-open_replica-clause-acting
returns-in-Ok-open_replica-clause-acting g c =
    ap (λ (m : MemberValue). was_replaced (standing_of m.node))
    (stays_started g.T.EpochStores.may_hold g.T.Store.StateStore c.in-Ok-start_replica.replica
    c.in-Ok-open_replica.ends.0.replica c.in-Ok-open_replica.ensures.replica).member_is
    ∙ c.in-Ok-start_replica.ensures.acting
