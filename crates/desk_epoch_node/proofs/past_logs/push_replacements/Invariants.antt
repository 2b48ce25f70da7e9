use Rattle.std.proofs.Common.{◌≡◌, ◌++◌, take}
use Rattle.desk_epoch_node.specs.Replacements.{replacements}
use Rattle.desk_epoch_node.proofs.past_logs.push_replacements.Given as goal

abbrev pub invariant-loop-entry : goal.invariant-loop-entry
invariant-loop-entry l = l.all.items ≡ l.fn.all.items ++ replacements (take l.entry-index l.entries)
