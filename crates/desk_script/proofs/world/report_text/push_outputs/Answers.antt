use Rattle.std.proofs.Common.{◌∙◌}
use Rattle.desk_script.proofs.ReportLines.{outputs_more}
use Rattle.desk_script.proofs.world.report_text.push_outputs.Goals as goal

pub loop-output-preserved : goal.loop-output-preserved
loop-output-preserved c = record {
  lines = outputs_more _ c.loop-output.output-index _ _ c.output-item.result _ _ c.loop-output-test.true
      c.output-item.is c.in_ok-number.ensures.next c.in_ok-number.ensures.lines ∙ c.loop-output.invariant.lines;
  within = c.in_ok-number.ensures.within;
}
