-- A log keeps what is committed, by the test, exactly where its first entries are the committed ones.
use Rattle.std.proofs.Common.{◌≡◌, ◌≤◌, List, length, take, leb}
use Rattle.std.specs.Bool.{Decides}
use Rattle.std.proofs.lemmas.Bool.{and_parts, and_from, leb-true, le-leb}
use Rattle.desk_types.specs.declared.command.Entry.{Entry}
use Rattle.desk_types.specs.SameEntries.{same_entries}
use Rattle.desk_types.proofs.SameEntries.{same_entries-Decides}
use Rattle.desk_log.specs.Change.{keeps_committed}
use Rattle.desk_log.specs.SavedValue.{SavedValue}

-- A log keeps what is committed where it has as many entries, and the first of them are the committed ones.
pub keeps_committed-Decides : (s : SavedValue) (log : List Entry) →
    Decides (keeps_committed s log) ((s.commit ≤ length log) × (take s.commit s.log ≡ take s.commit log))
keeps_committed-Decides s log = (
  λ t.
      let p = and_parts (leb s.commit (length log)) (same_entries (take s.commit s.log) (take s.commit log)) t in
      (leb-true s.commit (length log) p.0, (same_entries-Decides (take s.commit s.log) (take s.commit log)).0 p.1),
  λ e. and_from _ _ (le-leb s.commit (length log) e.0)
      ((same_entries-Decides (take s.commit s.log) (take s.commit log)).1 e.1),
)
