use Rattle.std.proofs.Common.{◌≡◌, take, drop}
use Rattle.desk_types.specs.Lists.{split_at}
use Rattle.desk_lines.proofs.Splits.{with_front}
use Rattle.desk_lines.proofs.lines.split_at_first.Given as goal

abbrev pub invariant-loop-i : goal.invariant-loop-i
invariant-loop-i l = split_at l.byte l.bytes ≡ with_front (take l.i l.bytes) (split_at l.byte (drop l.i l.bytes))
