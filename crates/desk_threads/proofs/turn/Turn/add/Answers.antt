use Rattle.std.proofs.Common.{◌≡◌, ◌∙◌, ◌∷◌, [], ap, sym, subst, is_some, not}
use Rattle.desk_threads.specs.Telling.{late_of, NotesItems}
use Rattle.desk_threads.proofs.TurnTelling.{notes_early, notes_late}
use Rattle.desk_threads.proofs.turn.Turn.add.Goals as goal
use Rattle.desk_threads.proofs.turn.Turn.add.Goals.{then-is_none, else-is_none}

pub returns-clause-noted : goal.returns-clause-noted
returns-clause-noted g c =
    let late : c.late_item-late.result ≡ late_of c.args.item = c.late_item-late.ensures in
    let tests : is_some (late_of c.args.item) ≡ not c.is_none.result = ap is_some (sym late) ∙ c.is_none.ensures in
    subst (λ l. NotesItems (c.args.item ∷ []) c.args.self.waiting c.if-is_none.waiting l) (sym late)
    (elim c.if-is_none.branch [
      | then-is_none w ↦
          notes_early c.args.item c.args.self.waiting c.if-is_none.waiting (tests ∙ ap not w.if-is_none.true)
          (w.waiting-is ∙ w.note.ensures)
      | else-is_none w ↦
          notes_late c.args.item c.args.self.waiting c.if-is_none.waiting (tests ∙ ap not w.if-is_none.false)
          w.waiting-is
    ])
