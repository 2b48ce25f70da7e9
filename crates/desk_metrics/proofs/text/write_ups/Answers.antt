use Rattle.desk_metrics.specs.Metrics.{up_line}
use Rattle.desk_metrics.proofs.Written.{wrote_more, wrote_nodes}
use Rattle.desk_metrics.proofs.text.write_ups.Goals as goal

pub loop-node-preserved : goal.loop-node-preserved
loop-node-preserved g c =
    wrote_more up_line _ _ _ c.args.places.now c.loop-node.node _ c.loop-node-test.true c.loop-node.invariant
    c.in-Ok.ensures

pub returns : goal.returns
returns g c =
    wrote_nodes up_line _ _ c.args.places.now c.loop-node.node c.loop-node-test.false c.loop-node.invariant
