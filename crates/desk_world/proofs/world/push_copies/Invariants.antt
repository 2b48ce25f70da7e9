use Rattle.std.proofs.Common.{◌≡◌, ◌++◌, take}
use Rattle.desk_world.proofs.world.push_copies.Given as goal

abbrev pub invariant-loop-one : goal.invariant-loop-one
invariant-loop-one l = l.packets.items ≡ l.fn.packets.items ++ take l.one-index l.sent
