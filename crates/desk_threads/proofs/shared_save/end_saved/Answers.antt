use Rattle.std.proofs.Common.{◌≡◌, ◌≢◌, ◌∙◌, List, MatchBool, ap, refl, subst}
use mathlib.Core.List.{IsPrefix}
use Rattle.desk_types.specs.declared.command.Entry.{Entry}
use Rattle.desk_types.specs.declared.owner.Owner.{Owner}
use Rattle.desk_published.proofs.PrefixEquations.{is_front}
use Rattle.desk_threads.proofs.Histories.{AdvanceLaws, forget_owner, forget_saved, publishes_on}
use Rattle.desk_published.specs.Writer.{published}
use Rattle.desk_threads.proofs.PublishedPrefixes.{where_true, where_false}
use Rattle.desk_threads.proofs.shared_save.end_saved.Goals as goal

pub invariant_of-result : goal.invariant_of-result
invariant_of-result g c =
    let s = g.R.SavedReplica.saving in
    let laws : AdvanceLaws s = record {
      forgotten = g.met.R.SavedReplica.forgotten_on;
      begun = g.met.R.SavedReplica.begun_on;
      prepared = g.met.R.SavedReplica.prepared_on;
    } in
    let p = c.publish_committed-writer.ensures in
    let replica = c.publish_committed-writer.new.replica in
    record {
      past_noted = p.noted.past_noted;
      past_shown = p.reached;
      past_is = p.noted.past_is;
      next = p.noted.next;
      noted = p.noted.begins;
      held = is_front _ _ p.held;
      shown = is_front _ _ p.shown;
      domain_is = ap (λ (o : Owner). o.domain) (forget_owner s laws c.args.turn.replica replica p.forgets)
          ∙ c.requires.domain;
      last = λ goes. forget_saved s laws c.args.turn.replica replica p.forgets c.requires.last;
      whole = λ goes. where_true _ _ _ (p.whole refl);
      partial = λ goes. where_false _ _ _ (p.whole refl);
    }

pub returns-clause-publishes : goal.returns-clause-publishes
returns-clause-publishes g c =
    let p = c.publish_committed-writer.ensures in
    let now = published c.publish_committed-writer.result.0.inner in
    publishes_on g.R.SavedReplica.saving c.args.turn.replica c.args.writer.noted (published c.args.writer.inner) now
    c.requires.reached c.requires.held c.requires.noted
    (subst (λ (w : List Entry). IsPrefix now w) p.history p.shown)

pub returns-clause-whole : goal.returns-clause-whole
returns-clause-whole g c =
    let p = c.publish_committed-writer.ensures in
    let now = published c.publish_committed-writer.result.0.inner in
    subst (λ (w : List Entry). MatchBool c.publish_committed-writer.result.1 (now ≡ w) (now ≢ w)) p.history
    (p.whole refl)
