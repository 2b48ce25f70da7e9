use Rattle.desk_world.proofs.Groups.{reports}
use Rattle.desk_world.proofs.report.report_of.Goals as goal

pub returns : goal.returns
returns c = rw c.in_ok-nodes.ensures (reports c.args.domain.now c.args.n c.args.events.now c.in_ok-outputs.outputs.items
    c.happen_all.new.self (rw (← c.requires.first) (c.in_ok-outputs.ensures c.args.domain.now c.args.n)))
