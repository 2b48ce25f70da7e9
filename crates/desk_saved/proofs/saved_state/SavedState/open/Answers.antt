use Rattle.desk_saved.proofs.DeskTables.{desk_tables, unnamed_of, desk_not_none}
use Rattle.desk_saved.proofs.OldTables.{old_not_none, old_not_tables}
use Rattle.desk_saved.proofs.Opening.{refused_at_once}
use Rattle.desk_saved.proofs.saved_state.SavedState.open.Goals as goal

pub returns-then-is_desk-clause-opened : goal.returns-then-is_desk-clause-opened
returns-then-is_desk-clause-opened g c = c.open_there.ensures.opened (c.is_desk.ensures.desk.0 c.if-is_desk.true)

pub returns-then-is_desk-clause-refused : goal.returns-then-is_desk-clause-refused
returns-then-is_desk-clause-refused g c = c.open_there.ensures.refused (c.is_desk.ensures.desk.0 c.if-is_desk.true)

pub returns-then-is_desk-clause-other : goal.returns-then-is_desk-clause-other
returns-then-is_desk-clause-other g c some none _ =
    absurd (none (desk_tables _ (c.is_desk.ensures.desk.0 c.if-is_desk.true)))

pub returns-then-is_desk-clause-referred : goal.returns-then-is_desk-clause-referred
returns-then-is_desk-clause-referred g c referred =
    absurd (referred.named (unnamed_of _ (c.is_desk.ensures.desk.0 c.if-is_desk.true)))

pub returns-then-is_desk-clause-room : goal.returns-then-is_desk-clause-room
returns-then-is_desk-clause-room g c neither none =
    absurd (desk_not_none _ (c.is_desk.ensures.desk.0 c.if-is_desk.true) neither)

pub returns-then-is_old_desk-clause-opened : goal.returns-then-is_old_desk-clause-opened
returns-then-is_old_desk-clause-opened g c =
    c.open_old.ensures.opened (c.is_old_desk.ensures.0 c.if-is_old_desk.true)

pub returns-then-is_old_desk-clause-refused : goal.returns-then-is_old_desk-clause-refused
returns-then-is_old_desk-clause-refused g c =
    c.open_old.ensures.refused (c.is_old_desk.ensures.0 c.if-is_old_desk.true)

pub returns-then-is_old_desk-clause-other : goal.returns-then-is_old_desk-clause-other
returns-then-is_old_desk-clause-other g c some none no_old =
    absurd (no_old (c.is_old_desk.ensures.0 c.if-is_old_desk.true))

pub returns-then-is_old_desk-clause-referred : goal.returns-then-is_old_desk-clause-referred
returns-then-is_old_desk-clause-referred g c referred =
    absurd (old_not_tables _ (c.is_old_desk.ensures.0 c.if-is_old_desk.true) referred.tables)

pub returns-then-is_old_desk-clause-room : goal.returns-then-is_old_desk-clause-room
returns-then-is_old_desk-clause-room g c neither none =
    absurd (old_not_none _ (c.is_old_desk.ensures.0 c.if-is_old_desk.true) neither)

pub returns-in-Some-clause-refused : goal.returns-in-Some-clause-refused
returns-in-Some-clause-refused g c = refused_at_once g.S.Store c.args.connection _ c.in-Some.refusal c.in-Some.ensures
