use Rattle.std.proofs.Common.{not, false, ℕ, List, ◌≡◌, ◌≤◌, ◌⊎◌, ◌∙◌, ap, length, refl, subst, sym}
use mathlib.Core.List.{IsPrefix}
use Rattle.desk_types.specs.Refusal.{IsStoreRefusal, HasStored}
use Rattle.desk_types.specs.declared.command.Entry.{Entry}
use Rattle.desk_types.specs.declared.owner.Owner.{Owner}
use Rattle.desk_types.specs.declared.epoch_packet.EpochPacket.{EpochPacket}
use Rattle.desk_types.specs.declared.refusal.Refusal.TheVariants as refusals
use Rattle.desk_published.specs.Writer.{published}
use Rattle.desk_published.proofs.PrefixEquations.{is_front}
use Rattle.desk_replica.specs.declared.answer.Answer.{Answer}
use Rattle.desk_replica.specs.EpochPackets.{packets_of_step}
use Rattle.desk_threads.specs.ItemAnswers.{waiting_on}
use Rattle.desk_threads.specs.SavedItems.{DoesAndForgets, DoesAndFails, RefusesAndForgets}
use Rattle.desk_threads.proofs.Histories.{AdvanceLaws, noted_on, front_on, forget_owner, forget_saved, forget_stays}
use Rattle.desk_threads.proofs.Histories.{publishes_then}
use Rattle.desk_threads.proofs.ItemPublishing.{done_stores, refused_stores}
use Rattle.desk_threads.proofs.PublishedPrefixes.{where_true, where_false}
use Rattle.desk_threads.proofs.StoredAnswers.{stored_ok, stored_err, stored_after, no_less}
use Rattle.desk_threads.proofs.ReportedAnswers.{reported_done, reported_waiting, reported_stopped, once_stopped}
use Rattle.desk_threads.proofs.ReportedAnswers.{made_stopped}
use Rattle.desk_threads.proofs.OutcomeAnswers.{item_done, none_if_ok, none_if_err, same_if_err, none_on_err}
use Rattle.desk_threads.proofs.OutcomeAnswers.{always_on_err, whole_done}
use Rattle.desk_threads.proofs.TurnSteps.{if_ok_each, if_err_each}
use Rattle.desk_threads.proofs.keeper.Keeper.serve.Goals as goal
use Rattle.desk_threads.proofs.keeper.Keeper.serve.Goals.{in-Ok, in-Err}

pub publish_committed-writer-requires-clause-saved : goal.publish_committed-writer-requires-clause-saved
publish_committed-writer-requires-clause-saved g c = λ goes.
    (c.act_and_save-outcome.ensures.saved (stored_after _ _ c.goes_on_after-goes_on.ensures (ap not goes))).0

pub publish_committed-writer-requires-clause-noted : goal.publish_committed-writer-requires-clause-noted
publish_committed-writer-requires-clause-noted g c =
    noted_on g.R.SavedReplica.saving c.args.self.replica c.act_and_save-outcome.new.replica c.args.self.writer.noted
    c.act_and_save-outcome.ensures.same (record {
      past_noted = c.args.self.past_noted;
      past_is = c.args.self.past_is;
      next = c.args.self.next;
      begins = c.args.self.noted;
    })

pub publish_committed-writer-requires-clause-shown : goal.publish_committed-writer-requires-clause-shown
publish_committed-writer-requires-clause-shown g c =
    front_on g.R.SavedReplica.saving c.args.self.replica c.act_and_save-outcome.new.replica c.args.self.writer.noted
    (published c.args.self.writer.inner) c.act_and_save-outcome.ensures.same c.args.self.shown

pub publish_committed-writer-requires-clause-reached : goal.publish_committed-writer-requires-clause-reached
publish_committed-writer-requires-clause-reached g c =
    subst (λ b. b ≤ length (published c.args.self.writer.inner)) (sym c.act_and_save-outcome.ensures.same.base)
    c.args.self.past_shown

pub invariant_of-keeper : goal.invariant_of-keeper
invariant_of-keeper g c =
    let s = g.R.SavedReplica.saving in
    let laws : AdvanceLaws s = record {
      forgotten = g.met.R.SavedReplica.forgotten_on;
      begun = g.met.R.SavedReplica.begun_on;
      prepared = g.met.R.SavedReplica.prepared_on;
    } in
    let done = c.act_and_save-outcome.ensures in
    let saved = c.act_and_save-outcome.new.replica in
    let replica = c.publish_committed-writer.new.replica in
    let p = c.publish_committed-writer.ensures in
    let stored : not c.goes_on_after-goes_on.result ≡ false → HasStored c.act_and_save-outcome.result =
    stored_after _ _ c.goes_on_after-goes_on.ensures in
    record {
      past_noted = p.noted.past_noted;
      past_shown = p.reached;
      past_is = p.noted.past_is;
      next = p.noted.next;
      noted = p.noted.begins;
      held = is_front _ _ p.held;
      shown = is_front _ _ p.shown;
      domain_is = ap (λ (o : Owner). o.domain) (forget_owner s laws saved replica p.forgets ∙ done.same.owner)
          ∙ c.args.self.domain_is;
      last = λ goes. forget_saved s laws saved replica p.forgets (done.saved (stored goes)).0;
      whole = λ goes. where_true _ _ _ (p.whole (no_less c.goes_on_after-goes_on.result goes));
      partial = λ goes. where_false _ _ _ (p.whole (no_less c.goes_on_after-goes_on.result goes));
    }

pub returns-clause-same : goal.returns-clause-same
returns-clause-same g c = (
  c.act_and_save-outcome.new.replica,
  c.act_and_save-outcome.ensures.same,
  c.publish_committed-writer.ensures.forgets,
)

pub returns-clause-saved : goal.returns-clause-saved
returns-clause-saved g c =
    let laws : AdvanceLaws g.R.SavedReplica.saving = record {
      forgotten = g.met.R.SavedReplica.forgotten_on;
      begun = g.met.R.SavedReplica.begun_on;
      prepared = g.met.R.SavedReplica.prepared_on;
    } in
    let then = forget_stays g.R.SavedReplica.saving g.met.R.SavedReplica.keeps_further
    (λ r. g.met.R.SavedReplica.followed_keeps r r (g.met.R.Replica.follows_still r)) laws
    c.args.self.replica c.act_and_save-outcome.new.replica c.publish_committed-writer.new.replica
    c.publish_committed-writer.ensures.forgets in
    elim c.match-outcome.branch [
      | in-Ok w ↦ λ _. then (c.act_and_save-outcome.ensures.saved (stored_ok _ _ w.in-Ok.is))
      | in-Err w ↦ λ h. then (c.act_and_save-outcome.ensures.saved (stored_err _ _ _ w.in-Err.is w.answer-is h))
    ]

pub returns-clause-whole : goal.returns-clause-whole
returns-clause-whole g c = elim c.match-outcome.branch [
  | in-Ok w ↦
      whole_done c.act_and_save-outcome.result _ c.match-outcome.answer c.publish_committed-writer.result.1
      c.goes_on_after-goes_on.result (published c.publish_committed-writer.result.0.inner) _ _ w.in-Ok.is w.answer-is
      c.goes_on_after-goes_on.ensures refl c.publish_committed-writer.ensures.whole
  | in-Err w ↦ none_if_ok c.match-outcome.answer _ _ w.answer-is
]

pub returns-clause-did : goal.returns-clause-did
returns-clause-did g c = elim c.match-outcome.branch [
  | in-Ok w ↦
      item_done g.O.Out
      (λ packets answers. DoesAndForgets g.R.Replica g.R.SavedReplica.saving c.args.self.replica c.args.item packets
      answers c.publish_committed-writer.new.replica)
      c.act_and_save-outcome.result packets_of_step (λ step. step.answers) _ c.match-outcome.answer _
      c.args.out.now w.hand_all.new.out c.match-outcome.out w.in-Ok.is w.answer-is w.out-is
      (if_ok_each c.act_and_save-outcome.result _ _
      (λ step does. (c.act_and_save-outcome.new.replica, does, c.publish_committed-writer.ensures.forgets))
      c.act_and_save-outcome.ensures.did) w.hand_all.ensures
  | in-Err w ↦ none_if_ok c.match-outcome.answer _ _ w.answer-is
]

pub returns-clause-refused : goal.returns-clause-refused
returns-clause-refused g c = elim c.match-outcome.branch [
  | in-Ok w ↦ none_if_err c.match-outcome.answer _ _ w.answer-is
  | in-Err w ↦
      same_if_err c.act_and_save-outcome.result c.match-outcome.answer _
      (λ r. r ≡ refusals.WantOfMemory →
      RefusesAndForgets g.R.Replica g.R.SavedReplica.saving c.args.self.replica c.publish_committed-writer.new.replica)
      w.in-Err.is w.answer-is
      (if_err_each c.act_and_save-outcome.result _ _
      (λ r refused is. (
        c.act_and_save-outcome.new.replica,
        refused is,
        c.publish_committed-writer.ensures.forgets,
      ))
      c.act_and_save-outcome.ensures.refused)
]

pub returns-clause-fault : goal.returns-clause-fault
returns-clause-fault g c = elim c.match-outcome.branch [
  | in-Ok w ↦ none_if_err c.match-outcome.answer _ _ w.answer-is
  | in-Err w ↦
      same_if_err c.act_and_save-outcome.result c.match-outcome.answer _
      (λ r. (r ≡ refusals.WantOfMemory) ⊎ IsStoreRefusal r) w.in-Err.is w.answer-is
      c.act_and_save-outcome.ensures.fault
]

pub returns-clause-silent : goal.returns-clause-silent
returns-clause-silent g c = elim c.match-outcome.branch [
  | in-Ok w ↦ none_on_err c.match-outcome.answer _ (c.match-outcome.out ≡ c.args.out.now) w.answer-is
  | in-Err w ↦ always_on_err c.match-outcome.answer (c.match-outcome.out ≡ c.args.out.now) w.out-is
]

pub returns-clause-first : goal.returns-clause-first
returns-clause-first g c = elim c.match-outcome.branch [
  | in-Ok w ↦ none_if_err c.match-outcome.answer _ _ w.answer-is
  | in-Err w ↦
      same_if_err c.act_and_save-outcome.result c.match-outcome.answer _
      (λ r. (r ≡ refusals.WantOfMemory) ⊎ (r ≡ refusals.StoreFault)) w.in-Err.is w.answer-is
      c.act_and_save-outcome.ensures.first
]

pub returns-clause-reported : goal.returns-clause-reported
returns-clause-reported g c = elim c.match-outcome.branch [
  | in-Ok w ↦
      reported_done c.act_and_save-outcome.result packets_of_step (λ step. step.answers) _
      c.match-outcome.answer _
      (λ packets answers. DoesAndForgets g.R.Replica g.R.SavedReplica.saving c.args.self.replica c.args.item packets
      answers c.publish_committed-writer.new.replica)
      (published c.publish_committed-writer.result.0.inner) _ _ _ _ _ _ w.in-Ok.is w.answer-is
      c.goes_on_after-goes_on.ensures
      (c.stop_unless.ensures ∙ ap (waiting_on c.goes_on_after-goes_on.result) c.note.ensures)
      (if_ok_each c.act_and_save-outcome.result _ _
      (λ step does. (c.act_and_save-outcome.new.replica, does, c.publish_committed-writer.ensures.forgets))
      c.act_and_save-outcome.ensures.did) w.hear.ensures w.waiting-is c.tell.ensures
  | in-Err w ↦ none_if_ok c.match-outcome.answer _ _ w.answer-is
]

pub returns-clause-reported_unanswered : goal.returns-clause-reported_unanswered
returns-clause-reported_unanswered g c = elim c.match-outcome.branch [
  | in-Ok w ↦ none_if_err c.match-outcome.answer _ _ w.answer-is
  | in-Err w ↦
      reported_waiting c.act_and_save-outcome.result c.match-outcome.answer _ _ _ _ _ _ _ w.in-Err.is w.answer-is
      c.goes_on_after-goes_on.ensures
      (c.stop_unless.ensures ∙ ap (waiting_on c.goes_on_after-goes_on.result) c.note.ensures)
      w.waiting-is c.tell.ensures
]

pub returns-clause-reported_stopped : goal.returns-clause-reported_stopped
returns-clause-reported_stopped g c = elim c.match-outcome.branch [
  | in-Ok w ↦ none_if_err c.match-outcome.answer _ _ w.answer-is
  | in-Err w ↦
      reported_stopped c.act_and_save-outcome.result c.match-outcome.answer _ _ _ _ _ _ _ w.in-Err.is w.answer-is
      c.goes_on_after-goes_on.ensures
      (c.stop_unless.ensures ∙ ap (waiting_on c.goes_on_after-goes_on.result) c.note.ensures)
      w.waiting-is c.tell.ensures
]

pub returns-clause-unpublished : goal.returns-clause-unpublished
returns-clause-unpublished g c = elim c.match-outcome.branch [
  | in-Ok w ↦ none_if_err c.match-outcome.answer _ _ w.answer-is
  | in-Err w ↦
      once_stopped c.act_and_save-outcome.result c.match-outcome.answer _ _ _ w.in-Err.is w.answer-is
      c.goes_on_after-goes_on.ensures
      (λ stops. ap (λ (p : _). published p.inner) (c.publish_committed-writer.ensures.unwanted stops).0)
]

pub returns-clause-stops : goal.returns-clause-stops
returns-clause-stops g c = elim c.match-outcome.branch [
  | in-Ok w ↦ none_if_err c.match-outcome.answer _ _ w.answer-is
  | in-Err w ↦
      once_stopped c.act_and_save-outcome.result c.match-outcome.answer _ _ _ w.in-Err.is w.answer-is
      c.goes_on_after-goes_on.ensures (λ stops. ap not stops)
]

pub returns-clause-made : goal.returns-clause-made
returns-clause-made g c = elim c.match-outcome.branch [
  | in-Ok w ↦ none_if_err c.match-outcome.answer _ _ w.answer-is
  | in-Err w ↦
      made_stopped c.act_and_save-outcome.result c.match-outcome.answer _ _ c.act_and_save-outcome.new.replica
      c.publish_committed-writer.new.replica
      (λ made. (packets : List (ℕ × EpochPacket)) × (answers : List Answer)
      × DoesAndFails g.R.Replica g.R.SavedReplica.saving c.args.self.replica c.args.item packets answers made)
      w.in-Err.is w.answer-is c.goes_on_after-goes_on.ensures
      (λ stops. (c.publish_committed-writer.ensures.unwanted stops).2) c.act_and_save-outcome.ensures.made
]

pub returns-clause-publishes : goal.returns-clause-publishes
returns-clause-publishes g c =
    let s = g.R.SavedReplica.saving in
    let k = c.args.self in
    let item = c.args.item in
    let stored = c.act_and_save-outcome.new.replica in
    let p = c.publish_committed-writer.ensures in
    let now = published c.publish_committed-writer.result.0.inner in
    let on = publishes_then s k.replica stored k.writer.noted (published k.writer.inner) now
    c.act_and_save-outcome.ensures.same
    (record { past_noted = k.past_noted; past_is = k.past_is; next = k.next; begins = k.noted }) k.past_shown k.held
    (subst (λ (w : List Entry). IsPrefix now w) p.history p.shown) in
    elim c.match-outcome.branch [
      | in-Ok w ↦ λ _. (
        stored,
        done_stores g.R.Replica s k.replica stored item c.act_and_save-outcome.result _ w.in-Ok.is
            c.act_and_save-outcome.ensures.did,
        on,
        p.forgets,
      )
      | in-Err w ↦ λ h. (
        stored,
        refused_stores g.R.Replica s k.replica stored item c.act_and_save-outcome.result c.match-outcome.answer _
            w.in-Err.is w.answer-is h c.act_and_save-outcome.ensures.refused c.act_and_save-outcome.ensures.fault,
        on,
        p.forgets,
      )
    ]
