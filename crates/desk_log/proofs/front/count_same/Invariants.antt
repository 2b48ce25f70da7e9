use Rattle.std.proofs.Common.{◌≡◌, take}
use Rattle.desk_log.proofs.front.count_same.Given as goal

abbrev pub invariant-loop-i : goal.invariant-loop-i
invariant-loop-i l = take l.i l.first ≡ take l.i l.second
