use Rattle.std.proofs.Common.{◌≡◌, ◌++◌, length}
use Rattle.desk_epoch_opening.proofs.publishing.publish_parts.Given as goal

-- what is noted, and the rest, are what was noted before and all entries
abbrev pub invariant-parts : goal.invariant-parts
invariant-parts g l = l.writer.noted ++ l.rest ≡ l.fn.writer.noted ++ l.entries

abbrev pub decreases-parts : goal.decreases-parts
decreases-parts g l = length l.rest
