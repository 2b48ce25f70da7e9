-- The logs of an epoch's past, of all that is published.
use Rattle.std.specs.Prelude.{List, take}
use Rattle.desk_types.specs.declared.command.Entry.{Entry}
use Rattle.desk_epoch_node.specs.PastRows.{PastValue}

-- the first of all entries: as many as this past has
abbrev pub past_in : PastValue → List Entry → List Entry
past_in p shown = take p.length shown
