use Rattle.std.proofs.Common.{◌∙◌, ◌∷◌, [], ap, length, List, subst, sym}
use Rattle.desk_mailbox.specs.Ends.{taken_by}
use Rattle.desk_replica.specs.declared.item_step.ItemStep.{ItemStep}
use Rattle.desk_threads.specs.Runs.{items_in}
use Rattle.desk_threads.specs.Telling.{NotesItems}
use Rattle.desk_threads.specs.Turns.{MetMore}
use Rattle.desk_threads.proofs.EndingItems.{turn_of_one}
use Rattle.desk_threads.proofs.TurnSteps.{met_then, taken_after}
use Rattle.desk_threads.proofs.shared_save.act_all_and_save.Goals as goal

pub save-requires : goal.save-requires
save-requires g c = (
  c.args.turn.replica,
  c.requires.saved,
  g.met.R.Replica.follows_further c.args.turn.replica c.add-turn.result.replica c.fill-turn.result.replica
      c.add-turn.ensures.follows c.fill-turn.ensures.follows,
  ap length c.committed.ensures,
)

pub returns-clause-did : goal.returns-clause-did
returns-clause-did g c =
    let f = c.fill-turn.ensures.did in
    let items = c.args.item ∷ items_in f.0 in
    let made = c.fill-turn.result.replica in (
      f.0,
      f.1,
      ap taken_by c.save.ensures.taker ∙ taken_after _ _ _ f.0 f.2.0 (ap taken_by c.add-turn.ensures.taker),
      (
        made,
        subst (λ (s : List ItemStep). MetMore g.R.Replica c.args.turn.replica c.args.turn.steps.items items made s)
            (sym c.save.ensures.steps)
            (met_then g.R.Replica c.args.turn.replica c.add-turn.result.replica made c.args.turn.steps.items
            c.add-turn.result.steps.items c.fill-turn.result.steps.items (c.args.item ∷ []) (items_in f.0)
            c.add-turn.ensures.did f.2.1),
        g.met.R.Replica.follows_further c.args.turn.replica c.add-turn.result.replica made
            c.add-turn.ensures.follows c.fill-turn.ensures.follows,
        c.save.ensures.saved,
      ),
      subst (λ w. NotesItems items c.args.turn.waiting w c.save.result.0.late) (sym c.save.ensures.waiting)
          (subst (λ l. NotesItems items c.args.turn.waiting c.fill-turn.result.waiting l) (sym c.save.ensures.late)
          (f.3 (c.args.item ∷ []) c.args.turn.waiting c.add-turn.ensures.noted)),
      (f.4 (c.args.item ∷ []) (turn_of_one c.args.item c.add-turn.result.is_over c.add-turn.ensures.over)).0,
    )
