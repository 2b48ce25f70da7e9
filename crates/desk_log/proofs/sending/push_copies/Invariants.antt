use Rattle.std.proofs.Common.{◌≡◌, ◌++◌, map}
use Rattle.desk_types.specs.Lists.{others_below}
use Rattle.desk_log.proofs.sending.push_copies.Given as goal

abbrev pub invariant-loop-j : goal.invariant-loop-j
invariant-loop-j l = l.packets.items ≡ l.fn.packets.items ++ map (λ j. (j, l.packet)) (others_below l.member.id l.j)
