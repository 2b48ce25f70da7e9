use Rattle.std.proofs.Common.{◌≡◌, ◌+◌, ◌++◌, Ok, take}
use Rattle.desk_codec.specs.Ranges.{FitsEntries}
use Rattle.desk_saved.specs.DeskTables.{Keeps}
use Rattle.desk_saved.specs.File.{rows_from}
use Rattle.desk_saved.specs.Transactions.{MakesRows}
use Rattle.desk_saved.proofs.steps.add_entries.Given as goal

abbrev pub invariant-loop-entry : goal.invariant-loop-entry
invariant-loop-entry g l = record {
  place : l.place ≡ l.front + l.entry-index;
  same : l.tx.conn.ghost_name ≡ l.fn.tx.conn.ghost_name;
  fits : FitsEntries (take l.entry-index l.more);
  makes : MakesRows g.S.Store l.fn.tx.conn.now l.tx.conn.now Keeps (λ _. Unit {0}) (Ok tt)
      (λ rows. record rows { entries = rows.entries ++ rows_from l.front (take l.entry-index l.more) }) ⊥;
}
