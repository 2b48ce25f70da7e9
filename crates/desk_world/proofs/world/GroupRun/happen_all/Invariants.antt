use Rattle.std.proofs.Common.{ℕ, List, take}
use Rattle.desk_world.specs.Group.{FollowsAll}
use Rattle.desk_world.proofs.world.GroupRun.happen_all.Given as goal

abbrev pub invariant-loop-event : goal.invariant-loop-event
invariant-loop-event l = (domain : List ℕ) (n : ℕ) →
    FollowsAll domain n l.fn.self (take l.event-index l.events) l.self l.outputs.items
