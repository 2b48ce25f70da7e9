use Rattle.std.proofs.Common.{◌≡◌, ◌∙◌, ◌⊎◌, List, ap, refl, subst, sym}
use mathlib.Core.List.{IsPrefix}
use Rattle.desk_types.specs.declared.command.Entry.{Entry}
use Rattle.desk_types.specs.declared.owner.Owner.{Owner}
use Rattle.desk_published.specs.Writer.{EqualsPrefix, published}
use Rattle.desk_published.proofs.PrefixEquations.{is_prefix}
use Rattle.desk_replica.specs.Saving.{BeginsEpoch, HasSameLogs}
use Rattle.desk_threads.specs.Noted.{replica_history}
use Rattle.desk_threads.proofs.Histories.{AdvanceLaws, begin_logs, begin_stays, entered_noted, entered_owner}
use Rattle.desk_threads.proofs.Histories.{entered_reached}
use Rattle.desk_threads.proofs.StoppedOutcomes.{by_outcome, has_stopped, runs_on, where_ok}
use Rattle.desk_threads.proofs.TurnSteps.{if_err_map}
use Rattle.desk_threads.proofs.keeper.Keeper.begin.Goals as goal

pub invariant_of-keeper : goal.invariant_of-keeper
invariant_of-keeper g c =
    let s = g.R.SavedReplica.saving in
    let laws : AdvanceLaws s = record {
      forgotten = g.met.R.SavedReplica.forgotten_on;
      begun = g.met.R.SavedReplica.begun_on;
      prepared = g.met.R.SavedReplica.prepared_on;
    } in
    let k = c.args.self in
    let new = c.begin_next-outcome.new.replica in
    let shown = published k.writer.inner in
    let logs : BeginsEpoch s k.replica new ⊎ HasSameLogs s k.replica new =
    by_outcome c.begin_next-outcome.result _ _ _ c.begin_next-outcome.ensures.begins
    c.begin_next-outcome.ensures.stops (λ b. begin_logs s laws k.replica new b.0 b.1) (λ r stops. stops.2) in
    let all : shown ≡ replica_history s k.replica k.writer.noted = k.whole c.requires.running c.requires.whole in
    let n = entered_noted s k.replica new k.writer.noted logs
    (record { past_noted = k.past_noted; past_is = k.past_is; next = k.next; begins = k.noted })
    (subst (λ (w : List Entry). IsPrefix w k.writer.noted) all (is_prefix shown k.writer.noted k.held)) in
    record {
      past_noted = n.0.past_noted;
      past_shown = entered_reached s k.replica new k.writer.noted shown logs
          (record { past_noted = k.past_noted; past_is = k.past_is; next = k.next; begins = k.noted }) k.past_shown
          all;
      past_is = n.0.past_is;
      next = n.0.next;
      noted = n.0.begins;
      held = k.held;
      shown = subst (λ (w : List Entry). EqualsPrefix shown w) n.1 k.shown;
      domain_is = ap (λ (o : Owner). o.domain) (entered_owner s k.replica new logs) ∙ k.domain_is;
      last = λ goes.
          let b = where_ok c.begin_next-outcome.result _ (sym c.is_err.ensures.value ∙ goes)
          c.begin_next-outcome.ensures.begins in
          (begin_stays s (λ r. g.met.R.SavedReplica.followed_keeps r r (g.met.R.Replica.follows_still r)) laws
          k.replica new b.0 b.1 (k.last c.requires.running)).0;
      whole = λ goes is. all ∙ n.1;
      partial = λ goes is. absurd (let none : ⊥ = cc (is, c.requires.whole) in none);
    }

pub returns-clause-stops : goal.returns-clause-stops
returns-clause-stops g c =
    if_err_map c.begin_next-outcome.result _ _ _
    (λ reported r b. record { stops = b.1; silent = b.0; unpublished = refl; reported = reported })
    c.tell_stop.ensures.stops c.begin_next-outcome.ensures.stops

pub returns-clause-running : goal.returns-clause-running
returns-clause-running g c = runs_on c.begin_next-outcome.result _ c.is_err.ensures.value

pub returns-clause-stopped : goal.returns-clause-stopped
returns-clause-stopped g c = has_stopped c.begin_next-outcome.result _ c.is_err.ensures.value
