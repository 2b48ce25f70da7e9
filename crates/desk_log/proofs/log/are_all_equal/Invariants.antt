use Rattle.std.proofs.Common.{◌≡◌, take}
use Rattle.desk_log.proofs.log.are_all_equal.Given as goal

abbrev pub invariant-loop-i : goal.invariant-loop-i
invariant-loop-i l = take l.i l.first ≡ take l.i l.second
