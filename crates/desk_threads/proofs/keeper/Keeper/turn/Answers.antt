use Rattle.std.proofs.Common.{rules, ◌≡◌, ◌∙◌, ap, sym, subst, refl, [], ◌∷◌, inl, inr, not, is_some}
use Rattle.desk_mailbox.specs.Ends.{taken_by, no_sender_left, IsSameTaker}
use Rattle.desk_mailbox.specs.declared.item.Item.TheVariants as items
use Rattle.desk_types.specs.declared.refusal.Refusal.TheVariants as refusals
use Rattle.desk_published.specs.Writer.{published}
use Rattle.desk_threads.specs.Runs.{stand}
use Rattle.desk_replica.specs.Saving.{StaysSaved}
use Rattle.desk_threads.proofs.KeeperRuns.{stays_same, if_some}
use Rattle.desk_threads.proofs.KeeperTurns.{turns_stopped, turns_end, refused_last, stand_same, reported_same}
use Rattle.desk_threads.proofs.KeeperTurns.{took_stop}
use Rattle.desk_threads.proofs.Advances.{fails_first, last_turn, turn_advanced, turn_advanced_stays, turn_failed}
use Rattle.desk_threads.proofs.Histories.{AdvanceLaws}
use Rattle.desk_threads.proofs.TurnSteps.{if_ok_map, if_ok_each, if_ok_both, if_err_each, on_ok_both}
use Rattle.desk_threads.proofs.keeper.Keeper.turn.Goals as goal

pub returns-in-None-clause-turns : goal.returns-in-None-clause-turns
returns-in-None-clause-turns g c = λ _.
    let taken : taken_by c.take-keeper.result.0.taker ≡ taken_by c.args.self.taker = search rules in
    turns_stopped g.O.Out g.R.Replica g.R.SavedReplica.saving _ _ _ _ _ _
    (ap taken_by c.refuse-keeper.ensures.taker ∙ taken)
    (ap no_sender_left c.refuse-keeper.ensures.taker ∙ c.take-keeper.ensures.left
    ∙ ap (λ o. not (is_some o)) c.in-None.is) (record {
      replica = c.refuse-keeper.ensures.replica ∙ c.take-keeper.ensures.replica;
      out = refl;
      published = ap (λ (p : _). published p.inner)
          (c.refuse-keeper.ensures.writer ∙ c.take-keeper.ensures.writer);
      all_published = c.refuse-keeper.ensures.all_published ∙ c.take-keeper.ensures.all_published;
      reported = reported_same _ _ (items.Stop ∷ []) _ _ _
          (ap (λ (p : _). published p.inner) c.take-keeper.ensures.writer) c.take-keeper.ensures.waiting
          c.refuse-keeper.ensures.reported;
    })

pub returns-in-None-clause-saved : goal.returns-in-None-clause-saved
returns-in-None-clause-saved g c = λ works. (
  c.refuse-keeper.ensures.stopped ∙ c.take-keeper.ensures.stopped ∙ works,
  stays_same g.R.SavedReplica.saving c.args.self.replica _
      (λ r. g.met.R.SavedReplica.followed_keeps r r (g.met.R.Replica.follows_still r))
      (c.refuse-keeper.ensures.replica ∙ c.take-keeper.ensures.replica) (c.args.self.last works),
)

pub returns-in-None-clause-same : goal.returns-in-None-clause-same
returns-in-None-clause-same g c =
    subst (IsSameTaker c.args.self.taker) (sym c.refuse-keeper.ensures.taker) c.take-keeper.ensures.same

pub returns-else-keeper-clause-went : goal.returns-else-keeper-clause-went
returns-else-keeper-clause-went g c =
    if_ok_map c.serve_and_advance.result.1 _ _
    (λ d more yes. turn_advanced g.O.Out g.R.Replica g.R.SavedReplica.saving _ _
    (taken_by c.take-keeper.result.0.taker) _ c.in-Some.sent _
    (stand c.take-keeper.result.0.replica c.take-keeper.result.0.waiting
    (published c.take-keeper.result.0.writer.inner) c.take-keeper.result.0.all_published c.args.out.now) _
    (if_some c.take-keeper.result.1 _ _ _ c.in-Some.is c.take-keeper.ensures.took)
    (stand_same _ _ _ _ _ _ _ _ _ c.take-keeper.ensures.replica c.take-keeper.ensures.waiting
    (ap (λ (p : _). published p.inner) c.take-keeper.ensures.writer)
    c.take-keeper.ensures.all_published) d)
    c.serve_and_advance.ensures.did

pub returns-else-keeper-clause-turns : goal.returns-else-keeper-clause-turns
returns-else-keeper-clause-turns g c =
    if_ok_both c.serve_and_advance.result.1 _ _ _
    (λ d more h stop. turns_end g.O.Out g.R.Replica g.R.SavedReplica.saving _ _ _ _ _ _
    (turn_advanced g.O.Out g.R.Replica g.R.SavedReplica.saving _ _
    (taken_by c.take-keeper.result.0.taker) _ c.in-Some.sent _
    (stand c.take-keeper.result.0.replica c.take-keeper.result.0.waiting
    (published c.take-keeper.result.0.writer.inner) c.take-keeper.result.0.all_published c.args.out.now) _
    (if_some c.take-keeper.result.1 _ _ _ c.in-Some.is c.take-keeper.ensures.took)
    (stand_same _ _ _ _ _ _ _ _ _ c.take-keeper.ensures.replica c.take-keeper.ensures.waiting
    (ap (λ (p : _). published p.inner) c.take-keeper.ensures.writer)
    c.take-keeper.ensures.all_published) d)
    (took_stop _ (taken_by c.take-keeper.result.0.taker) _ c.in-Some.sent
    (if_some c.take-keeper.result.1 _ _ _ c.in-Some.is c.take-keeper.ensures.took) (h stop)))
    c.serve_and_advance.ensures.did c.serve_and_advance.ensures.stopped

pub returns-else-keeper-clause-ends : goal.returns-else-keeper-clause-ends
returns-else-keeper-clause-ends g c =
    if_ok_each c.serve_and_advance.result.1 _ _
    (λ more h stop. inl (took_stop _ (taken_by c.take-keeper.result.0.taker) _ c.in-Some.sent
    (if_some c.take-keeper.result.1 _ _ _ c.in-Some.is c.take-keeper.ensures.took) (h stop)))
    c.serve_and_advance.ensures.stopped

pub returns-in-None-clause-ends : goal.returns-in-None-clause-ends
returns-in-None-clause-ends g c = λ _.
    inr (ap no_sender_left c.refuse-keeper.ensures.taker ∙ c.take-keeper.ensures.left
    ∙ ap (λ o. not (is_some o)) c.in-None.is)

pub returns-else-keeper-clause-failed : goal.returns-else-keeper-clause-failed
returns-else-keeper-clause-failed g c =
    if_err_each c.serve_and_advance.result.1 _ _
    (λ fault d. turn_failed g.O.Out g.R.Replica g.R.SavedReplica.saving _ _
    (taken_by c.take-keeper.result.0.taker) _ c.in-Some.sent _
    (stand c.take-keeper.result.0.replica c.take-keeper.result.0.waiting
    (published c.take-keeper.result.0.writer.inner) c.take-keeper.result.0.all_published c.args.out.now)
    (stand c.serve_and_advance.result.0.replica c.serve_and_advance.result.0.waiting
    (published c.serve_and_advance.result.0.writer.inner) c.serve_and_advance.result.0.all_published
    c.serve_and_advance.new.out)
    (if_some c.take-keeper.result.1 _ _ _ c.in-Some.is c.take-keeper.ensures.took)
    (stand_same _ _ _ _ _ _ _ _ _ c.take-keeper.ensures.replica c.take-keeper.ensures.waiting
    (ap (λ (p : _). published p.inner) c.take-keeper.ensures.writer)
    c.take-keeper.ensures.all_published)
    fault d)
    c.serve_and_advance.ensures.failed

pub returns-else-keeper-clause-first : goal.returns-else-keeper-clause-first
returns-else-keeper-clause-first g c = λ _.
    if_err_each c.serve_and_advance.result.1 _ _
    (λ fault. fails_first g.O.Out g.R.Replica g.R.SavedReplica.saving _ fault _ _ _
    (stand c.take-keeper.result.0.replica c.take-keeper.result.0.waiting
    (published c.take-keeper.result.0.writer.inner) c.take-keeper.result.0.all_published c.args.out.now)
    (stand c.serve_and_advance.result.0.replica c.serve_and_advance.result.0.waiting
    (published c.serve_and_advance.result.0.writer.inner) c.serve_and_advance.result.0.all_published
    c.serve_and_advance.new.out))
    c.serve_and_advance.ensures.failed

pub returns-then-keeper-clause-failed : goal.returns-then-keeper-clause-failed
returns-then-keeper-clause-failed g c =
    let keeper = c.refuse-keeper-then-keeper.result in
    let is = c.refuse-keeper-then-keeper.ensures in
    last_turn g.O.Out g.R.Replica g.R.SavedReplica.saving c.args.most refusals.NodeStopped _ _
    (stand c.args.self.replica c.args.self.waiting (published c.args.self.writer.inner)
    c.args.self.all_published c.args.out.now)
    (stand keeper.replica keeper.waiting (published keeper.writer.inner) keeper.all_published
    c.args.out.now)
    (refused_last g.R.Replica g.R.SavedReplica.saving c.args.most _ _ c.in-Some.sent
    (stand c.args.self.replica c.args.self.waiting (published c.args.self.writer.inner)
    c.args.self.all_published c.args.out.now)
    (stand keeper.replica keeper.waiting (published keeper.writer.inner) keeper.all_published
    c.args.out.now)
    c.requires.positive
    (ap taken_by is.taker ∙ if_some c.take-keeper.result.1 _ _ _ c.in-Some.is c.take-keeper.ensures.took)
    (is.replica ∙ c.take-keeper.ensures.replica) refl
    (ap (λ (p : _). published p.inner) (is.writer ∙ c.take-keeper.ensures.writer))
    (reported_same _ _ (c.in-Some.sent.item ∷ []) _ _ _
    (ap (λ (p : _). published p.inner) c.take-keeper.ensures.writer) c.take-keeper.ensures.waiting is.reported))

pub returns-else-keeper-clause-saved : goal.returns-else-keeper-clause-saved
returns-else-keeper-clause-saved g c = λ works.
    let laws : AdvanceLaws g.R.SavedReplica.saving = record {
      forgotten = g.met.R.SavedReplica.forgotten_on;
      begun = g.met.R.SavedReplica.begun_on;
      prepared = g.met.R.SavedReplica.prepared_on;
    } in
    on_ok_both c.serve_and_advance.result.1 _ _ _
    (λ took still. (
      still,
      subst (λ r. StaysSaved g.R.SavedReplica.saving r c.serve_and_advance.result.0.replica)
          c.take-keeper.ensures.replica
          (turn_advanced_stays g.O.Out g.R.Replica g.R.SavedReplica.saving g.met.R.SavedReplica.saved_last
          g.met.R.SavedReplica.keeps_further
          (λ r. g.met.R.SavedReplica.followed_keeps r r (g.met.R.Replica.follows_still r))
          g.met.R.SavedReplica.followed_keeps g.met.R.SavedReplica.saved_keeps laws
          c.args.most _ _ took.2 _ took.3 took.4),
    ))
    c.serve_and_advance.ensures.did c.serve_and_advance.ensures.running
