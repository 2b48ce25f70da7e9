use Rattle.std.proofs.Common.{sym, subst}
use Rattle.desk_saved.specs.declared.changes.RowChange.TheVariants as changes
use Rattle.desk_saved.specs.Changes.{change_effect, IsApt, Spares}
use Rattle.desk_saved.specs.Transactions.{MakesRows}
use Rattle.desk_saved.specs.DeskTables.{Keeps}
use Rattle.desk_saved.proofs.RowChanges.{makes}
use Rattle.desk_saved.proofs.changes.run.Goals as goal

pub returns-in-CutEntries-clause-makes : goal.returns-in-CutEntries-clause-makes
returns-in-CutEntries-clause-makes g c =
    subst (λ change. MakesRows g.S.Store c.args.tx.now.conn.now c.execute.new.tx.conn.now Keeps (IsApt change)
    c.execute.result (change_effect change) (Spares change))
    (sym c.in-CutEntries.is) (makes g.S.Store _ _ (changes.CutEntries c.in-CutEntries.front) _
    (rw c.number.ensures at c.execute.ensures.ran))

pub returns-in_ok-body-in-AddEntry-clause-makes : goal.returns-in_ok-body-in-AddEntry-clause-makes
returns-in_ok-body-in-AddEntry-clause-makes g c =
    subst (λ change. MakesRows g.S.Store c.args.tx.now.conn.now c.execute-in-AddEntry.new.tx.conn.now Keeps
    (IsApt change)
    c.execute-in-AddEntry.result (change_effect change) (Spares change))
    (sym c.in-AddEntry.is) (makes g.S.Store _ _ (changes.AddEntry c.in-AddEntry.place c.in-AddEntry.entry) _
    (rw (
      c.number-in-AddEntry.ensures,
      c.number-in-AddEntry-2.ensures,
      c.number-in-AddEntry-3.ensures,
      c.get.ensures.value,
      c.get-in-AddEntry.ensures.value,
      c.as_slice.ensures.value,
      c.in_ok-body-in-AddEntry.ensures.spelling,
    ) at c.execute-in-AddEntry.ensures.ran))

pub returns-in-CutClient-clause-makes : goal.returns-in-CutClient-clause-makes
returns-in-CutClient-clause-makes g c =
    subst (λ change. MakesRows g.S.Store c.args.tx.now.conn.now c.execute-in-CutClient.new.tx.conn.now Keeps
    (IsApt change)
    c.execute-in-CutClient.result (change_effect change) (Spares change))
    (sym c.in-CutClient.is) (makes g.S.Store _ _ (changes.CutClient c.in-CutClient.client) _
    (rw c.number-in-CutClient.ensures at c.execute-in-CutClient.ensures.ran))

pub returns-in-AddClient-clause-makes : goal.returns-in-AddClient-clause-makes
returns-in-AddClient-clause-makes g c =
    subst (λ change. MakesRows g.S.Store c.args.tx.now.conn.now c.execute-in-AddClient.new.tx.conn.now Keeps
    (IsApt change)
    c.execute-in-AddClient.result (change_effect change) (Spares change))
    (sym c.in-AddClient.is)
    (makes g.S.Store _ _ (changes.AddClient c.in-AddClient.client c.in-AddClient.latest c.in-AddClient.place) _
    (rw (c.number-in-AddClient.ensures, c.number-in-AddClient-2.ensures, c.number-in-AddClient-3.ensures)
    at c.execute-in-AddClient.ensures.ran))

pub returns-in-PutFirst-clause-makes : goal.returns-in-PutFirst-clause-makes
returns-in-PutFirst-clause-makes g c =
    subst (λ change. MakesRows g.S.Store c.args.tx.now.conn.now c.execute-in-PutFirst.new.tx.conn.now Keeps
    (IsApt change)
    c.execute-in-PutFirst.result (change_effect change) (Spares change))
    (sym c.in-PutFirst.is)
    (makes g.S.Store _ _ (changes.PutFirst c.in-PutFirst.id c.in-PutFirst.n c.in-PutFirst.domain) _
    (rw (c.number-in-PutFirst.ensures, c.number-in-PutFirst-2.ensures, c.as_bytes.ensures.value)
    at c.execute-in-PutFirst.ensures.ran))

pub returns-in-SetNumbers-clause-makes : goal.returns-in-SetNumbers-clause-makes
returns-in-SetNumbers-clause-makes g c =
    subst (λ change. MakesRows g.S.Store c.args.tx.now.conn.now c.execute-in-SetNumbers.new.tx.conn.now Keeps
    (IsApt change) c.execute-in-SetNumbers.result (change_effect change) (Spares change))
    (sym c.in-SetNumbers.is)
    (makes g.S.Store _ _ (changes.SetNumbers c.in-SetNumbers.view c.in-SetNumbers.normal c.in-SetNumbers.commit) _
    (rw (c.number-in-SetNumbers.ensures, c.number-in-SetNumbers-2.ensures, c.number-in-SetNumbers-3.ensures)
    at c.execute-in-SetNumbers.ensures.ran))

pub returns-in-SetVersion-clause-makes : goal.returns-in-SetVersion-clause-makes
returns-in-SetVersion-clause-makes g c =
    subst (λ change. MakesRows g.S.Store c.args.tx.now.conn.now c.execute-in-SetVersion.new.tx.conn.now Keeps
    (IsApt change) c.execute-in-SetVersion.result (change_effect change) (Spares change))
    (sym c.in-SetVersion.is) (makes g.S.Store _ _ changes.SetVersion _ c.execute-in-SetVersion.ensures.ran)
