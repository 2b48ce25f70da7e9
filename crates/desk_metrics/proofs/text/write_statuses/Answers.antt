use Rattle.desk_output.proofs.Texts.{wrote_whole}
use Rattle.desk_metrics.specs.Metrics.{refused_line}
use Rattle.desk_metrics.proofs.Written.{wrote_item}
use Rattle.desk_metrics.proofs.text.write_statuses.Goals as goal

pub loop-row-preserved : goal.loop-row-preserved
loop-row-preserved g c =
    wrote_item refused_line _ _ _ c.args.rows.now c.loop-row.row-index _ c.loop-row-test.true c.loop-row.invariant
    c.in-Ok.ensures

pub returns : goal.returns
returns g c =
    wrote_whole refused_line _ _ c.args.rows.now c.loop-row.row-index c.loop-row-test.false c.loop-row.invariant
