use Rattle.std.proofs.Common.{List, ◌++◌, take}
use Rattle.desk_types.specs.declared.command.Entry.{Entry}
use Rattle.desk_epoch_node.specs.Ends.{IsCut, IsShort}
use Rattle.desk_epoch_node.proofs.cut.cut_with.Given as goal

abbrev pub invariant-loop-entry : goal.invariant-loop-entry
invariant-loop-entry l =
    IsShort l.most l.cut
    × ((before : List Entry) → IsCut l.most before l.fn.first →
    IsCut l.most (before ++ take l.entry-index l.entries) l.cut)
