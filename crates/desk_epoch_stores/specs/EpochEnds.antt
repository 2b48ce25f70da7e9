-- What the end of an epoch leaves in the stores of a node.
use Rattle.std.specs.Prelude.{List, length}
use Rattle.desk_types.specs.declared.command.Entry.{Entry}
use Rattle.desk_log.specs.SavedValue.{SavedValue}

-- what is saved of an epoch whose whole log was sent: all of it is committed. No node acts in that epoch any more
abbrev pub reported_saved : List Entry → SavedValue
reported_saved log = record { view = 0; normal = 0; log = log; commit = length log }
