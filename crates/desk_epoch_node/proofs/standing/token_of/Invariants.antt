use Rattle.std.proofs.Common.{◌≡◌, take}
use Rattle.desk_epoch_node.specs.Replacements.{token_after}
use Rattle.desk_epoch_node.proofs.standing.token_of.Given as goal

abbrev pub invariant-loop-replacement : goal.invariant-loop-replacement
invariant-loop-replacement l = l.token ≡ token_after l.number 0 (take l.replacement-index l.replacements)
