use Rattle.std.proofs.Common.{◌≡◌, take}
use Rattle.desk_epoch_node.proofs.past_logs.copy_replacements.Given as goal

abbrev pub invariant-loop-replacement : goal.invariant-loop-replacement
invariant-loop-replacement l = l.copies.items ≡ take l.replacement-index l.replacements
