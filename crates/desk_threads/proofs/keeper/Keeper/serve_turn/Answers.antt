use Rattle.std.proofs.Common.{◌≤◌, ◌∙◌, ◌∷◌, ◌++◌, option_to_list, ap, length, sym, subst, refl}
use Rattle.desk_types.specs.declared.owner.Owner.{Owner}
use Rattle.desk_mailbox.specs.Ends.{taken_by}
use Rattle.desk_published.specs.Writer.{published}
use Rattle.desk_threads.specs.Runs.{items_in, stand}
use Rattle.desk_threads.specs.SavedItems.{MeetsAndFails}
use Rattle.desk_threads.specs.Telling.{NotesItems}
use Rattle.desk_threads.specs.Turns.{MetMore}
use Rattle.desk_threads.proofs.Histories.{noted_on, front_on}
use Rattle.desk_threads.proofs.SavedItems.{turn_on, turn_fails, saves_if}
use Rattle.desk_threads.proofs.StoredAnswers.{no_less}
use Rattle.desk_threads.proofs.TurnEnds.{saved_turn, unsaved_turn}
use Rattle.desk_threads.proofs.keeper.Keeper.serve_turn.Goals as goal

pub act_all_and_save-turn-requires-clause-saved : goal.act_all_and_save-turn-requires-clause-saved
act_all_and_save-turn-requires-clause-saved g c =
    subst g.R.SavedReplica.saving.is_saved (sym c.new-turn.ensures.replica) (c.args.self.last c.requires.running)

pub end_saved-keeper-requires-clause-noted : goal.end_saved-keeper-requires-clause-noted
end_saved-keeper-requires-clause-noted g c =
    noted_on g.R.SavedReplica.saving c.args.self.replica _ c.args.self.writer.noted
    (turn_on g.R.Replica g.R.SavedReplica.saving g.met.R.SavedReplica.followed_on g.met.R.SavedReplica.saved_on
    g.met.R.SavedReplica.failed_on c.args.self.replica c.new-turn.result.replica
    c.act_all_and_save-turn.result.0.replica c.new-turn.result.steps.items
    c.act_all_and_save-turn.result.0.steps.items (c.args.item ∷ items_in c.act_all_and_save-turn.ensures.did.0)
    c.act_all_and_save-turn.result.1 c.new-turn.ensures.replica c.act_all_and_save-turn.ensures.did.3)
    (record {
      past_noted = c.args.self.past_noted;
      past_is = c.args.self.past_is;
      next = c.args.self.next;
      begins = c.args.self.noted;
    })

pub end_saved-keeper-requires-clause-reached : goal.end_saved-keeper-requires-clause-reached
end_saved-keeper-requires-clause-reached g c =
    subst (λ b. b ≤ length (published c.args.self.writer.inner))
    (sym (turn_on g.R.Replica g.R.SavedReplica.saving g.met.R.SavedReplica.followed_on g.met.R.SavedReplica.saved_on
    g.met.R.SavedReplica.failed_on c.args.self.replica c.new-turn.result.replica
    c.act_all_and_save-turn.result.0.replica c.new-turn.result.steps.items
    c.act_all_and_save-turn.result.0.steps.items (c.args.item ∷ items_in c.act_all_and_save-turn.ensures.did.0)
    c.act_all_and_save-turn.result.1 c.new-turn.ensures.replica c.act_all_and_save-turn.ensures.did.3).base)
    c.args.self.past_shown

pub end_unsaved-keeper-requires-clause-reached : goal.end_unsaved-keeper-requires-clause-reached
end_unsaved-keeper-requires-clause-reached g c =
    subst (λ b. b ≤ length (published c.args.self.writer.inner))
    (sym (turn_on g.R.Replica g.R.SavedReplica.saving g.met.R.SavedReplica.followed_on g.met.R.SavedReplica.saved_on
    g.met.R.SavedReplica.failed_on c.args.self.replica c.new-turn.result.replica
    c.act_all_and_save-turn.result.0.replica c.new-turn.result.steps.items
    c.act_all_and_save-turn.result.0.steps.items (c.args.item ∷ items_in c.act_all_and_save-turn.ensures.did.0)
    c.act_all_and_save-turn.result.1 c.new-turn.ensures.replica c.act_all_and_save-turn.ensures.did.3).base)
    c.args.self.past_shown

pub end_saved-keeper-requires-clause-domain : goal.end_saved-keeper-requires-clause-domain
end_saved-keeper-requires-clause-domain g c =
    ap (λ (o : Owner). o.domain)
    (turn_on g.R.Replica g.R.SavedReplica.saving g.met.R.SavedReplica.followed_on g.met.R.SavedReplica.saved_on
    g.met.R.SavedReplica.failed_on c.args.self.replica c.new-turn.result.replica
    c.act_all_and_save-turn.result.0.replica c.new-turn.result.steps.items
    c.act_all_and_save-turn.result.0.steps.items (c.args.item ∷ items_in c.act_all_and_save-turn.ensures.did.0)
    c.act_all_and_save-turn.result.1 c.new-turn.ensures.replica c.act_all_and_save-turn.ensures.did.3).owner
    ∙ c.args.self.domain_is

pub end_unsaved-keeper-requires-clause-noted : goal.end_unsaved-keeper-requires-clause-noted
end_unsaved-keeper-requires-clause-noted g c =
    noted_on g.R.SavedReplica.saving c.args.self.replica _ c.args.self.writer.noted
    (turn_on g.R.Replica g.R.SavedReplica.saving g.met.R.SavedReplica.followed_on g.met.R.SavedReplica.saved_on
    g.met.R.SavedReplica.failed_on c.args.self.replica c.new-turn.result.replica
    c.act_all_and_save-turn.result.0.replica c.new-turn.result.steps.items
    c.act_all_and_save-turn.result.0.steps.items (c.args.item ∷ items_in c.act_all_and_save-turn.ensures.did.0)
    c.act_all_and_save-turn.result.1 c.new-turn.ensures.replica c.act_all_and_save-turn.ensures.did.3)
    (record {
      past_noted = c.args.self.past_noted;
      past_is = c.args.self.past_is;
      next = c.args.self.next;
      begins = c.args.self.noted;
    })

pub end_unsaved-keeper-requires-clause-domain : goal.end_unsaved-keeper-requires-clause-domain
end_unsaved-keeper-requires-clause-domain g c =
    ap (λ (o : Owner). o.domain)
    (turn_on g.R.Replica g.R.SavedReplica.saving g.met.R.SavedReplica.followed_on g.met.R.SavedReplica.saved_on
    g.met.R.SavedReplica.failed_on c.args.self.replica c.new-turn.result.replica
    c.act_all_and_save-turn.result.0.replica c.new-turn.result.steps.items
    c.act_all_and_save-turn.result.0.steps.items (c.args.item ∷ items_in c.act_all_and_save-turn.ensures.did.0)
    c.act_all_and_save-turn.result.1 c.new-turn.ensures.replica c.act_all_and_save-turn.ensures.did.3).owner
    ∙ c.args.self.domain_is

pub end_unsaved-keeper-requires-clause-shown : goal.end_unsaved-keeper-requires-clause-shown
end_unsaved-keeper-requires-clause-shown g c =
    front_on g.R.SavedReplica.saving c.args.self.replica _ c.args.self.writer.noted (published c.args.self.writer.inner)
    (turn_on g.R.Replica g.R.SavedReplica.saving g.met.R.SavedReplica.followed_on g.met.R.SavedReplica.saved_on
    g.met.R.SavedReplica.failed_on c.args.self.replica c.new-turn.result.replica
    c.act_all_and_save-turn.result.0.replica c.new-turn.result.steps.items
    c.act_all_and_save-turn.result.0.steps.items (c.args.item ∷ items_in c.act_all_and_save-turn.ensures.did.0)
    c.act_all_and_save-turn.result.1 c.new-turn.ensures.replica c.act_all_and_save-turn.ensures.did.3)
    c.args.self.shown

pub end_saved-keeper-requires-clause-shown : goal.end_saved-keeper-requires-clause-shown
end_saved-keeper-requires-clause-shown g c =
    front_on g.R.SavedReplica.saving c.args.self.replica _ c.args.self.writer.noted (published c.args.self.writer.inner)
    (turn_on g.R.Replica g.R.SavedReplica.saving g.met.R.SavedReplica.followed_on g.met.R.SavedReplica.saved_on
    g.met.R.SavedReplica.failed_on c.args.self.replica c.new-turn.result.replica
    c.act_all_and_save-turn.result.0.replica c.new-turn.result.steps.items
    c.act_all_and_save-turn.result.0.steps.items (c.args.item ∷ items_in c.act_all_and_save-turn.ensures.did.0)
    c.act_all_and_save-turn.result.1 c.new-turn.ensures.replica c.act_all_and_save-turn.ensures.did.3)
    c.args.self.shown

pub end_saved-keeper-requires-clause-last : goal.end_saved-keeper-requires-clause-last
end_saved-keeper-requires-clause-last g c =
    let met = c.act_all_and_save-turn.ensures.did.3 in
    g.met.R.SavedReplica.saved_last met.0 _
    (saves_if g.R.SavedReplica.saving met.0 _ c.act_all_and_save-turn.result.1 _ c.in-Ok.is met.3)

pub returns-in-Ok-clause-did : goal.returns-in-Ok-clause-did
returns-in-Ok-clause-did g c =
    let d = c.act_all_and_save-turn.ensures.did in
    let turn = c.act_all_and_save-turn.result.0 in
    let first = c.new-turn.result in
    let keeper = c.end_saved-keeper.result in
    let items = c.args.item ∷ items_in d.0 in
    let s = g.R.SavedReplica.saving in
    let saves = saves_if s d.3.0 turn.replica c.act_all_and_save-turn.result.1 _ c.in-Ok.is d.3.3 in (
      d.0,
      ap taken_by c.end_saved-keeper.ensures.taker ∙ d.2 ∙ ap (λ t. taken_by t ++ d.0) c.new-turn.ensures.taker,
      saved_turn g.O.Out g.R.Replica s c.args.most c.args.item d.0 first.steps.items turn.steps.items
          (stand c.args.self.replica c.args.self.waiting (published c.args.self.writer.inner)
          c.args.self.all_published c.args.out.now)
          (stand keeper.replica keeper.waiting (published keeper.writer.inner)
          keeper.all_published c.end_saved-keeper.new.out) d.3.0 turn.replica turn.waiting turn.late d.1 d.5
          c.new-turn.ensures.steps
          (subst (λ r. MetMore g.R.Replica r first.steps.items items d.3.0 turn.steps.items)
          c.new-turn.ensures.replica d.3.1)
          (subst (λ r. g.R.Replica.follows r d.3.0) c.new-turn.ensures.replica d.3.2)
          saves c.end_saved-keeper.ensures.replica
          (subst (λ w. NotesItems items w turn.waiting turn.late) c.new-turn.ensures.waiting d.4)
          c.end_saved-keeper.ensures.gave c.end_saved-keeper.ensures.grows c.end_saved-keeper.ensures.publishes
          c.end_saved-keeper.ensures.whole c.end_saved-keeper.ensures.reported,
    )

pub returns-in-Ok-clause-stopped : goal.returns-in-Ok-clause-stopped
returns-in-Ok-clause-stopped g c = λ stops.
    let d = c.act_all_and_save-turn.ensures.did in (
      d.0,
      ap taken_by c.end_saved-keeper.ensures.taker ∙ d.2 ∙ ap (λ t. taken_by t ++ d.0) c.new-turn.ensures.taker,
      (
        d.4.0,
        d.4.1
            ∙ ap (λ l. d.4.0 ++ option_to_list l)
            (c.is_stop-goes_on.ensures (no_less c.is_stop-goes_on.result stops)),
      ),
    )

pub returns-in-Err-clause-failed : goal.returns-in-Err-clause-failed
returns-in-Err-clause-failed g c =
    let d = c.act_all_and_save-turn.ensures.did in
    let turn = c.act_all_and_save-turn.result.0 in
    let first = c.new-turn.result in
    let keeper = c.end_unsaved-keeper.result in
    let items = c.args.item ∷ items_in d.0 in
    let s = g.R.SavedReplica.saving in (
      d.0,
      d.1,
      d.5,
      ap taken_by c.end_unsaved-keeper.ensures.taker ∙ d.2 ∙ ap (λ t. taken_by t ++ d.0) c.new-turn.ensures.taker,
      refl,
      ap (λ (p : _). published p.inner) c.end_unsaved-keeper.ensures.writer,
      unsaved_turn (published c.args.self.writer.inner) items c.args.self.waiting turn.waiting
          c.end_unsaved-keeper.result.waiting turn.late
          (subst (λ w. NotesItems items w turn.waiting turn.late) c.new-turn.ensures.waiting d.4)
          c.end_unsaved-keeper.ensures.reported,
      subst (λ r. MeetsAndFails g.R.Replica s c.args.self.replica items r) (sym c.end_unsaved-keeper.ensures.replica)
          (turn_fails g.R.Replica s c.args.self.replica first.replica turn.replica first.steps.items turn.steps.items
          items c.act_all_and_save-turn.result.1 _ c.new-turn.ensures.replica (c.args.self.last c.requires.running)
          c.in-Err.is d.3),
    )
