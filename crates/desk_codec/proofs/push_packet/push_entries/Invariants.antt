use Rattle.std.proofs.Common.{◌≡◌, ◌++◌, take}
use Rattle.std.specs.List.{flat_map}
use Rattle.desk_codec.specs.Ranges.{FitsEntries}
use Rattle.desk_codec.specs.Spelling.{entry_spelling}
use Rattle.desk_codec.proofs.push_packet.push_entries.Given as goal

abbrev pub invariant-loop-entry : goal.invariant-loop-entry
invariant-loop-entry l = record {
  put : l.out.items ≡ l.fn.out.items ++ flat_map entry_spelling (take l.entry-index l.entries);
  fits : FitsEntries (take l.entry-index l.entries);
}
