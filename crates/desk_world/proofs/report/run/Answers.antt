use Rattle.std.proofs.lemmas.Result.{IfOk-weaker}
use Rattle.desk_world.proofs.Reported.{nodes_agree}
use Rattle.desk_world.proofs.report.run.Goals as goal

pub returns-clause-agree : goal.returns-clause-agree
returns-clause-agree c =
    IfOk-weaker c.report_of.result _ _
    (λ report h. nodes_agree c.args.domain c.args.n c.args.events.now report.events.items report.nodes.items
    c.requires.group h) c.report_of.ensures
