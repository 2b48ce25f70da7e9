use Rattle.std.proofs.Common.{◌≢◌, ◌≤◌, ◌∙◌, List, ap, length, subst, sym}
use Rattle.desk_types.specs.declared.command.Entry.{Entry}
use Rattle.desk_types.specs.declared.owner.Owner.{Owner}
use Rattle.desk_published.specs.Writer.{EqualsPrefix, published}
use Rattle.desk_replica.specs.Saving.{HasSameLogs}
use Rattle.desk_threads.proofs.Histories.{AdvanceLaws, prepare_logs, prepare_stays, same_noted}
use Rattle.desk_threads.proofs.StoppedOutcomes.{by_outcome, has_stopped, runs_on, where_ok}
use Rattle.desk_threads.proofs.TurnSteps.{if_err_each}
use Rattle.desk_threads.proofs.keeper.Keeper.prepare.Goals as goal

pub invariant_of-keeper : goal.invariant_of-keeper
invariant_of-keeper g c =
    let s = g.R.SavedReplica.saving in
    let laws : AdvanceLaws s = record {
      forgotten = g.met.R.SavedReplica.forgotten_on;
      begun = g.met.R.SavedReplica.begun_on;
      prepared = g.met.R.SavedReplica.prepared_on;
    } in
    let k = c.args.self in
    let new = c.prepare_next-outcome.new.replica in
    let shown = published k.writer.inner in
    let logs : HasSameLogs s k.replica new =
    by_outcome c.prepare_next-outcome.result _ _ _ c.prepare_next-outcome.ensures.prepares
    c.prepare_next-outcome.ensures.stops (prepare_logs s laws k.replica new) (λ r stops. stops.1) in
    let n = same_noted s k.replica new k.writer.noted logs
    (record { past_noted = k.past_noted; past_is = k.past_is; next = k.next; begins = k.noted }) in
    record {
      past_noted = n.0.past_noted;
      past_shown = subst (λ b. b ≤ length shown) (sym logs.base) k.past_shown;
      past_is = n.0.past_is;
      next = n.0.next;
      noted = n.0.begins;
      held = k.held;
      shown = subst (λ (w : List Entry). EqualsPrefix shown w) n.1 k.shown;
      domain_is = ap (λ (o : Owner). o.domain) logs.owner ∙ k.domain_is;
      last = λ goes.
          (prepare_stays s (λ r. g.met.R.SavedReplica.followed_keeps r r (g.met.R.Replica.follows_still r)) laws
          k.replica new (where_ok c.prepare_next-outcome.result _ (sym c.is_err.ensures.value ∙ goes)
          c.prepare_next-outcome.ensures.prepares)
          (k.last c.requires.running)).0;
      whole = λ goes is. k.whole c.requires.running is ∙ n.1;
      partial = λ goes is. subst (λ (w : List Entry). shown ≢ w) n.1 (k.partial c.requires.running is);
    }

pub returns-clause-stops : goal.returns-clause-stops
returns-clause-stops g c =
    if_err_each c.prepare_next-outcome.result _ _ (λ r stops. stops.0) c.prepare_next-outcome.ensures.stops

pub returns-clause-running : goal.returns-clause-running
returns-clause-running g c = runs_on c.prepare_next-outcome.result _ c.is_err.ensures.value

pub returns-clause-stopped : goal.returns-clause-stopped
returns-clause-stopped g c = has_stopped c.prepare_next-outcome.result _ c.is_err.ensures.value
