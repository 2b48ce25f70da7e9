use Rattle.std.proofs.Common.{arith}
use Rattle.desk_world.proofs.Groups.{acts_nowhere}
use Rattle.desk_world.proofs.world.GroupRun.act.Goals as goal

pub returns-then-node-len : goal.returns-then-node-len
returns-then-node-len c domain n = rw c.nothing.ensures (acts_nowhere domain n c.args.node c.args.self.now c.args.event
    (rw (← c.self.view_is) (omega (arith, c.if-node-len.true, c.len.ensures))))
