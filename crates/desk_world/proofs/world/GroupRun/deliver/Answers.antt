use Rattle.std.proofs.Common.{rules}
use Rattle.std.proofs.lemmas.Result.{IfOk-weaker}
use Rattle.desk_world.proofs.Groups.{follows_deliver, follows_none}
use Rattle.desk_world.proofs.world.GroupRun.deliver.Goals as goal

pub returns-in_default : goal.returns-in_default
returns-in_default c domain n =
    rw c.nothing.ensures (follows_none domain n c.args.number c.args.self.now (search rules))

pub returns : goal.returns
returns c =
    IfOk-weaker c.act.result _ _
    (λ output acts domain n. follows_deliver domain n c.args.number c.args.self.now _ c.in-Some.sent.now output
    (search rules) (rw (← c.in_ok-packet.ensures) (acts domain n))) c.act.ensures
