use Rattle.std.proofs.Common.{◌≡◌, ◌↔◌, take, IsTrue}
use Rattle.desk_admission.proofs.initiator.are_same_challenges.Given as goal

-- all are the same so far just where the bytes so far are
abbrev pub invariant-loop-i : goal.invariant-loop-i
invariant-loop-i l = IsTrue l.same ↔ (take l.i l.one ≡ take l.i l.other)
